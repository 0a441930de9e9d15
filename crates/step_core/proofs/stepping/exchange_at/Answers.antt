use Rattle.step_core.proofs.Stepped.{Before, Does, Tell, before-of, open-at, said-at, core-next, follows-next, ended-next, unchanged-next, hears-next, shows-next}
use Rattle.step_core.proofs.stepping.exchange_at.Goals as goal

pub exchange-requires-clause-open : goal.exchange-requires-clause-open
exchange-requires-clause-open g c =
    open-at c.args.place c.args.state.now c.args.seats.now.items c.index_mut.result.now
    (before-of c.args.place c.args.state.now c.args.seats.now.items c.index_mut.result.now c.requires.core c.requires.there c.index_mut.ensures.value)

pub exchange-requires-clause-said : goal.exchange-requires-clause-said
exchange-requires-clause-said g c =
    said-at c.args.place c.args.state.now c.args.seats.now.items c.index_mut.result.now
    (before-of c.args.place c.args.state.now c.args.seats.now.items c.index_mut.result.now c.requires.core c.requires.there c.index_mut.ensures.value)

pub returns-clause-core : goal.returns-clause-core
returns-clause-core g c =
    core-next c.args.place c.args.state.now c.exchange.new.state c.args.seats.now.items c.index_mut.result.now c.exchange.new.self c.exchange.result
    (before-of c.args.place c.args.state.now c.args.seats.now.items c.index_mut.result.now c.requires.core c.requires.there c.index_mut.ensures.value)
    (record {
      session = c.exchange.ensures.session;
      said = c.exchange.ensures.said;
      sent = c.exchange.ensures.sent;
      went = c.exchange.ensures.went;
      ended = c.exchange.ensures.ended;
      unchanged = c.exchange.ensures.unchanged;
    })

pub returns-clause-follows : goal.returns-clause-follows
returns-clause-follows g c =
    follows-next c.args.place c.args.state.now c.exchange.new.state c.args.seats.now.items c.index_mut.result.now c.exchange.new.self c.exchange.result
    (before-of c.args.place c.args.state.now c.args.seats.now.items c.index_mut.result.now c.requires.core c.requires.there c.index_mut.ensures.value)
    (record {
      session = c.exchange.ensures.session;
      said = c.exchange.ensures.said;
      sent = c.exchange.ensures.sent;
      went = c.exchange.ensures.went;
      ended = c.exchange.ensures.ended;
      unchanged = c.exchange.ensures.unchanged;
    })

pub returns-clause-ended : goal.returns-clause-ended
returns-clause-ended g c =
    ended-next c.args.place c.args.state.now c.exchange.new.state c.args.seats.now.items c.index_mut.result.now c.exchange.new.self c.exchange.result
    (before-of c.args.place c.args.state.now c.args.seats.now.items c.index_mut.result.now c.requires.core c.requires.there c.index_mut.ensures.value)
    (record {
      session = c.exchange.ensures.session;
      said = c.exchange.ensures.said;
      sent = c.exchange.ensures.sent;
      went = c.exchange.ensures.went;
      ended = c.exchange.ensures.ended;
      unchanged = c.exchange.ensures.unchanged;
    })

pub returns-clause-unchanged : goal.returns-clause-unchanged
returns-clause-unchanged g c =
    unchanged-next c.args.place c.args.state.now c.exchange.new.state c.args.seats.now.items c.index_mut.result.now c.exchange.new.self c.exchange.result
    (before-of c.args.place c.args.state.now c.args.seats.now.items c.index_mut.result.now c.requires.core c.requires.there c.index_mut.ensures.value)
    (record {
      session = c.exchange.ensures.session;
      said = c.exchange.ensures.said;
      sent = c.exchange.ensures.sent;
      went = c.exchange.ensures.went;
      ended = c.exchange.ensures.ended;
      unchanged = c.exchange.ensures.unchanged;
    })

pub returns-clause-hears : goal.returns-clause-hears
returns-clause-hears g c =
    hears-next c.args.place c.args.state.now c.exchange.new.state c.args.seats.now.items c.index_mut.result.now c.exchange.new.self c.exchange.result
    (before-of c.args.place c.args.state.now c.args.seats.now.items c.index_mut.result.now c.requires.core c.requires.there c.index_mut.ensures.value)
    (record {
      session = c.exchange.ensures.session;
      said = c.exchange.ensures.said;
      sent = c.exchange.ensures.sent;
      went = c.exchange.ensures.went;
      ended = c.exchange.ensures.ended;
      unchanged = c.exchange.ensures.unchanged;
    })

pub returns-clause-shows : goal.returns-clause-shows
returns-clause-shows g c =
    shows-next c.args.place c.args.state.now c.args.seats.now.items c.index_mut.result.now c.exchange.result (g.H.Watch.tells c.args.watch.now) (g.H.Watch.tells c.exchange.new.watch)
    (before-of c.args.place c.args.state.now c.args.seats.now.items c.index_mut.result.now c.requires.core c.requires.there c.index_mut.ensures.value)
    (record { shows = c.exchange.ensures.shows; silent = c.exchange.ensures.silent })
