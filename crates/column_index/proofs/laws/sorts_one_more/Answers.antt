use Rattle.column_index.proofs.Sorting.{sorted-nothing, sorted-push}
use Rattle.column_index.proofs.laws.sorts_one_more.Goals as goal

pub returns : goal.returns
returns c = λ e entries. record { none = sorted-nothing; one = sorted-push e entries }
