use Rattle.std.proofs.Common.{◌≡◌, ◌∙◌, Option, None, Some, MatchOption, ap, sym, subst, codes, is_some}
use Rattle.clap.specs.declared.parser.matches.ArgMatches.{ArgMatches}
use Rattle.command_words.specs.Grammar.{command_name, options, spelled, texts, value_of}
use Rattle.command_words.specs.Giving.{Finds, text_of}
use Rattle.command_words.proofs.ProgramLemmas.{flag_found, no_command, spelled_once, value_found}
use Rattle.command_words.proofs.given.given_words.Goals as goal

pub returns-in_default-get_str : goal.returns-in_default-get_str
returns-in_default-get_str c =
    let words = texts c.args.words.now in
    let m = c.in-Some.matches in
    let f : Finds words m = subst (λ (o : Option ArgMatches). MatchOption o (spelled options words ≡ None) (λ m. Finds words m)) c.in-Some.is c.in_ok-matches.ensures in
    no_command words m f (sym (value_found words m f command_name) ∙ (sym c.get_str.ensures ∙ ap text_of c.in_default-get_str.is))

pub returns : goal.returns
returns c =
    let words = texts c.args.words.now in
    let m = c.in-Some.matches in
    let f : Finds words m = subst (λ (o : Option ArgMatches). MatchOption o (spelled options words ≡ None) (λ m. Finds words m)) c.in-Some.is c.in_ok-matches.ensures in
    let command : value_of command_name f.uses ≡ Some c.in-Some-get_str.command.now =
    sym (value_found words m f command_name) ∙ (sym c.get_str.ensures ∙ ap text_of c.in-Some-get_str.is) in
    record {
      uses = f.uses;
      spelled_uses = spelled_once words m f (ap is_some command);
      is_given = record {
        command = command;
        key = c.get_str-2.ensures ∙ value_found words m f (codes "key");
        first_nonce = c.get_str-3.ensures ∙ value_found words m f (codes "first-nonce");
        mode = c.get_str-4.ensures ∙ value_found words m f (codes "mode");
        schedule = c.get_str-5.ensures ∙ value_found words m f (codes "schedule");
        turns = c.get_str-6.ensures ∙ value_found words m f (codes "turns");
        number = c.get_str-7.ensures ∙ value_found words m f (codes "number");
        sessions = c.get_str-8.ensures ∙ value_found words m f (codes "sessions");
        transactions = c.get_str-9.ensures ∙ value_found words m f (codes "transactions");
        view = c.contains_id.ensures ∙ flag_found words m f (codes "view");
        text = c.contains_id-2.ensures ∙ flag_found words m f (codes "text");
      };
    }
