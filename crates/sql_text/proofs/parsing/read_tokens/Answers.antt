use Rattle.std.proofs.Common.{refl, ◌∙◌, sym}
use Rattle.sql_text.proofs.Verdicts.{driven_spells, gives_driven, gives_ended, has_tokens, not_ended, wrong_token}
use Rattle.sql_text.specs.Lexing.{tokens_of}
use Rattle.sql_text.proofs.parsing.read_tokens.Goals as goal

pub returns-in-Err-clause-fault : goal.returns-in-Err-clause-fault
returns-in-Err-clause-fault c =
    let has = has_tokens c.args.line.now (tokens_of c.args.line.now) refl c.requires.allowed c.requires.faultless in
    wrong_token c.args.line.now has.0 c.in-Err.at has.1 (sym (c.in_ok-state.ensures has.0 has.1.lexed) ∙ c.in-Err.is)

pub returns-in-Err-clause-complete : goal.returns-in-Err-clause-complete
returns-in-Err-clause-complete c s g =
    let has = has_tokens c.args.line.now (tokens_of c.args.line.now) refl c.requires.allowed c.requires.faultless in
    absurd (gives_driven c.args.line.now s has.0 c.in-Err.at g has.1.lexed (sym (c.in_ok-state.ensures has.0 has.1.lexed) ∙ c.in-Err.is))

pub within_limits-requires : goal.within_limits-requires
within_limits-requires c =
    let has = has_tokens c.args.line.now (tokens_of c.args.line.now) refl c.requires.allowed c.requires.faultless in
    record {
      tokens = has.0;
      line_tokens = has.1;
      spells = driven_spells has.0 c.in-Ok.state c.in-Some.stmt (sym (c.in_ok-state.ensures has.0 has.1.lexed) ∙ c.in-Ok.is) (sym c.in-Some.ensures);
    }

pub returns-in-None-clause-fault : goal.returns-in-None-clause-fault
returns-in-None-clause-fault c =
    let has = has_tokens c.args.line.now (tokens_of c.args.line.now) refl c.requires.allowed c.requires.faultless in
    not_ended c.args.line.now has.0 c.in-Ok.state has.1 (sym (c.in_ok-state.ensures has.0 has.1.lexed) ∙ c.in-Ok.is) (sym c.in-None.ensures)

pub returns-in-None-clause-complete : goal.returns-in-None-clause-complete
returns-in-None-clause-complete c s g =
    let has = has_tokens c.args.line.now (tokens_of c.args.line.now) refl c.requires.allowed c.requires.faultless in
    absurd (gives_ended c.args.line.now s has.0 c.in-Ok.state g has.1.lexed (sym (c.in_ok-state.ensures has.0 has.1.lexed) ∙ c.in-Ok.is) (sym c.in-None.ensures))
