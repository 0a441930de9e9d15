use Rattle.std.proofs.Common.{refl}
use Rattle.versions.specs.Summed.{noted}
use Rattle.versions.proofs.draft.Logged.noted.Goals as goal

pub returns-in-Row : goal.returns-in-Row
unfolding noted
returns-in-Row c = rw (c.one_at.ensures, c.as_slice.ensures, c.in-Row.is) refl

pub returns-in-Rows : goal.returns-in-Rows
unfolding noted
returns-in-Rows c = rw (c.list_at.ensures, c.as_slice-in-Rows.ensures, c.in-Rows.is) refl
