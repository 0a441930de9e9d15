use Rattle.report.specs.ViewText.{IsWritable, exchange_lines}
use Rattle.report.proofs.Appends.{all_pieces, more_pieces}
use Rattle.report.proofs.NumberedPieces.{each-at}
use Rattle.report.proofs.exchanges.push_exchanges.Goals as goal

pub push_exchange-requires : goal.push_exchange-requires
push_exchange-requires c = each-at IsWritable c.args.log.now c.exchanges.exchange-index c.exchange-item.result c.exchanges-test.true c.exchange-item.is c.requires

pub exchanges-preserved : goal.exchanges-preserved
exchanges-preserved c =
    more_pieces exchange_lines c.exchanges.text.items c.push_exchange.new.text.items _ c.args.log.now c.exchanges.exchange-index c.exchange-item.result c.exchanges-test.true c.exchange-item.is
    c.in_ok-push_exchange.ensures
    c.exchanges.invariant

pub returns : goal.returns
returns c = all_pieces exchange_lines c.exchanges.text.items _ c.args.log.now c.exchanges.exchange-index c.exchanges-test.false c.exchanges.invariant
