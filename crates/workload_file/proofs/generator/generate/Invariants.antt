use Rattle.std.proofs.Common.{◌≡◌, ◌++◌, ◌-◌}
use Rattle.workload_file.specs.GeneratedText.{text_of_lines, sessions_lines}
use Rattle.workload_file.proofs.generator.generate.Given as goal

abbrev pub invariant-sessions : goal.invariant-sessions
invariant-sessions l =
    l.text.items ++ text_of_lines (sessions_lines (l.sessions - l._i) l.transactions l.state)
    ≡ l.initial.text.items ++ text_of_lines (sessions_lines l.sessions l.transactions l.initial.state)
