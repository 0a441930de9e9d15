use Rattle.std.proofs.Common.{◌≡◌, ◌∙◌, true, ap, codes}
use Rattle.std.proofs.lemmas.Result.{IfOk-weaker}
use Rattle.clap.specs.Simple.{App, app_of, app_of_fields, new_app, on_top}
use Rattle.command_words.proofs.ProgramLemmas.{adds}
use Rattle.command_words.proofs.given.program.Goals as goal

abbrev started : App
started = on_top (λ s. record s { no_binary_name = true; disable_help_flag = true }) (new_app (codes "mope"))

pub returns : goal.returns
returns c =
    let start : app_of c.disable_help_flag.result ≡ started =
    ap app_of_fields c.disable_help_flag.ensures
    ∙ (ap (λ f. app_of_fields (record f { disable_help_flag = true })) c.no_binary_name.ensures
    ∙ ap (on_top (λ s. record s { no_binary_name = true; disable_help_flag = true })) c.new.ensures.app) in
    let one = adds _ _ _ _ _ c.in_ok-arg.ensures c.command_word.ensures.local start c.command_word.ensures.rule in
    let two = adds _ _ _ _ _ c.in_ok-arg-2.ensures c.value_option.ensures.local one c.value_option.ensures.rule in
    let three = adds _ _ _ _ _ c.in_ok-arg-3.ensures c.value_option-2.ensures.local two c.value_option-2.ensures.rule in
    let four = adds _ _ _ _ _ c.in_ok-arg-4.ensures c.value_option-3.ensures.local three c.value_option-3.ensures.rule in
    let five = adds _ _ _ _ _ c.in_ok-arg-5.ensures c.value_option-4.ensures.local four c.value_option-4.ensures.rule in
    let six = adds _ _ _ _ _ c.in_ok-arg-6.ensures c.value_option-5.ensures.local five c.value_option-5.ensures.rule in
    let seven = adds _ _ _ _ _ c.in_ok-arg-7.ensures c.value_option-6.ensures.local six c.value_option-6.ensures.rule in
    let eight = adds _ _ _ _ _ c.in_ok-arg-8.ensures c.value_option-7.ensures.local seven c.value_option-7.ensures.rule in
    let nine = adds _ _ _ _ _ c.in_ok-arg-9.ensures c.value_option-8.ensures.local eight c.value_option-8.ensures.rule in
    let ten = adds _ _ _ _ _ c.in_ok-arg-10.ensures c.flag_option.ensures.local nine c.flag_option.ensures.rule in
    IfOk-weaker c.arg-11.result _ _ (λ m added. adds _ m _ _ _ added c.flag_option-2.ensures.local ten c.flag_option-2.ensures.rule) c.arg-11.ensures
