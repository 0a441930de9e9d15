-- The code of what contracts see of a core, by which proofs tell two of them apart.
use Rattle.std.specs.Prelude.{Bool, List, refl}
use Rattle.std.specs.Coded.{Coded, code_by, coded×, coded_bool, coded_list}
use Rattle.proxy.specs.contracts.client.Proxy as proxy
use Rattle.proxy.specs.Party.{Party}
use Rattle.server_conn.specs.Handling.{Seen}
use Rattle.server_conn.specs.Stored.{seen_code}
use Rattle.txn_core.specs.Courses.{Course, course_code}
use Rattle.step_core.specs.Cores.{Cored, Sitting}

abbrev pub sitting_code : Coded Sitting
sitting_code = code_by (Party × Seen) (coded× proxy.the_row.coded seen_code) (λ x. (x.party, x.conn)) (λ p. record { party = p.0; conn = p.1 }) (λ _. refl)

abbrev pub cored_code : Coded Cored
cored_code = code_by (Course × (List Sitting × Bool)) (coded× course_code (coded× (coded_list sitting_code) coded_bool)) (λ c. (c.state, (c.sittings, c.spent))) (λ p. record { state = p.0; sittings = p.1.0; spent = p.1.1 }) (λ _. refl)
