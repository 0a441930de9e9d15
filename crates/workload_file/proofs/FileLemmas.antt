-- The first line of some bytes, and the rest.
use Rattle.std.proofs.Common.{◌≡◌, ℕ, suc, ◌+◌, ◌<◌, Bool, true, false, not, nat_lt, ◌≤◌, cond, List, [], ◌∷◌, length, take, drop, Ok, Err, refl, ap, sym, ◌∙◌, subst, add-one, arith}
use Rattle.std.proofs.lemmas.Bool.{lt-ltb, le-ltb}
use Rattle.std.specs.List.{prefix_len}
use Rattle.std.specs.Result.{IfOk, IfErr}
use Rattle.workload.specs.declared.script.Workload.{Workload}
use Rattle.workload_file.specs.Steps.{start}
use Rattle.workload_file.specs.WorkloadFile.{Verdict, NextLine, Goes, Leads, IsToldBy, ended_at, GivesUnless, GivesVerdict, IsWorkloadFile, IsRefusal, is_too_long}
use Rattle.workload_file.specs.declared.reader.Reader.{Reader}
use Rattle.workload_file.specs.declared.stops.FileReason.{FileReason}
use Rattle.workload_file.specs.declared.stops.FileReason.TheVariants as reason
use Rattle.workload_file.specs.declared.stops.FileStop.{FileStop}
use Rattle.workload_file.specs.declared.stops.FileStop.TheVariants.{Bad, OutOfMemory}
use Rattle.workload_file.specs.FileLines.{is_feed, is_inside, with_byte, lines_of}

cut_alone : (feed : Bool) (b : ℕ) → with_byte feed b [] ≡ take (cond (not feed) 1 0) (b ∷ []) ∷ lines_of (drop 1 (drop (cond (not feed) 1 0) (b ∷ [])))
unfolding with_byte lines_of
cut_alone true b = refl
cut_alone false b = refl

cut_more : (feed : Bool) (b n m : ℕ) (bytes : List ℕ) → m ≡ suc n → lines_of bytes ≡ take n bytes ∷ lines_of (drop 1 (drop n bytes))
    → with_byte feed b (lines_of bytes) ≡ take (cond (not feed) m 0) (b ∷ bytes) ∷ lines_of (drop 1 (drop (cond (not feed) m 0) (b ∷ bytes)))
unfolding with_byte
cut_more true b n m bytes size e = refl
cut_more false b n m bytes size e =
    subst (λ (k : ℕ). with_byte false b (lines_of bytes) ≡ take k (b ∷ bytes) ∷ lines_of (drop 1 (drop k (b ∷ bytes)))) (sym size) (ap (λ lines. with_byte false b lines) e)

cut_first : (b : ℕ) (bytes : List ℕ) → lines_of (b ∷ bytes) ≡ take (prefix_len is_inside (b ∷ bytes)) (b ∷ bytes) ∷ lines_of (drop 1 (drop (prefix_len is_inside (b ∷ bytes)) (b ∷ bytes)))
unfolding lines_of
cut_first b [] = cut_alone (is_feed b) b
cut_first b (c ∷ bytes) = cut_more (is_feed b) b (prefix_len is_inside (c ∷ bytes)) (1 + prefix_len is_inside (c ∷ bytes)) (c ∷ bytes) (omega arith) (cut_first c bytes)

-- the first line goes up to the first line feed
pub first_cut : (bytes : List ℕ) (n : ℕ) → 0 < length bytes → n ≡ prefix_len is_inside bytes → lines_of bytes ≡ take n bytes ∷ lines_of (drop 1 (drop n bytes))
first_cut [] n some e = absurd (omega (arith, some))
first_cut (b ∷ bytes) n some e = subst (λ (m : ℕ). lines_of (b ∷ bytes) ≡ take m (b ∷ bytes) ∷ lines_of (drop 1 (drop m (b ∷ bytes)))) (sym e) (cut_first b bytes)

pub told_of : (Is : Verdict → Type 0) (verdict : Verdict) → Is verdict → IsToldBy Is verdict
told_of Is (Ok w) is = is
told_of Is (Err (Bad line why)) is = is
told_of Is (Err OutOfMemory) is = tt

-- a line that is taken, and one that has a fault
pub leads_on : (n : ℕ) (reader after : Reader) (bytes line rest : List ℕ) (verdict : Verdict) → lines_of bytes ≡ line ∷ lines_of rest → NextLine reader line (Ok after)
    → Leads (n + 1) after (lines_of rest) verdict → Leads n reader (lines_of bytes) verdict
unfolding Leads Goes
leads_on n reader after bytes line rest verdict cut next later =
    subst (λ lines. Leads n reader lines verdict) (sym cut) (Ok after, next, subst (λ m. Leads m after (lines_of rest) verdict) (add-one n) later)

pub leads_wrong : (n : ℕ) (reader : Reader) (why : FileReason) (bytes line rest : List ℕ) → lines_of bytes ≡ line ∷ lines_of rest → NextLine reader line (Err why)
    → Leads n reader (lines_of bytes) (Err (Bad n why))
unfolding Leads Goes
leads_wrong n reader why bytes line rest cut next =
    subst (λ lines. Leads n reader lines (Err (Bad n why))) (sym cut) (Err why, next, refl)

pub leads_end : (n : ℕ) (reader : Reader) (bytes : List ℕ) (verdict : Verdict) → length bytes ≡ 0 → verdict ≡ ended_at reader.stage n reader → Leads n reader (lines_of bytes) verdict
unfolding Leads lines_of
leads_end n reader [] verdict none e = e
leads_end n reader (b ∷ bytes) verdict none e = absurd (omega (arith, none))

pub cut_given : (bytes line rest behind : List ℕ) (n : ℕ) → 0 < length bytes → n ≡ prefix_len is_inside bytes → line ≡ take n bytes → rest ≡ drop n bytes → behind ≡ drop 1 rest
    → lines_of bytes ≡ line ∷ lines_of behind
cut_given bytes line rest behind n some size is_line is_rest is_behind =
    first_cut bytes n some size
    ∙ ap (λ (l : List ℕ). l ∷ lines_of (drop 1 (drop n bytes))) (sym is_line)
    ∙ ap (λ (r : List ℕ). line ∷ lines_of r) (sym (is_behind ∙ ap (λ (r : List ℕ). drop 1 r) is_rest))

long_by : (long : Bool) (bytes : List ℕ) → long ≡ true → GivesUnless long bytes (Err (Bad 0 reason.InputTooLong))
unfolding GivesUnless
long_by true bytes e = refl
long_by false bytes e = absurd (let no : ⊥ = cc in no)

pub too_long : (bytes : List ℕ) → 67108864 < length bytes → GivesVerdict bytes (Err (Bad 0 reason.InputTooLong))
unfolding is_too_long
too_long bytes long = long_by (nat_lt 67108864 (length bytes)) bytes (lt-ltb 67108864 (length bytes) long)

short_by : (long : Bool) (bytes : List ℕ) (verdict : Verdict) → long ≡ false → Leads 1 start (lines_of bytes) verdict → GivesUnless long bytes verdict
unfolding GivesUnless
short_by true bytes verdict e leads = absurd (let no : ⊥ = cc in no)
short_by false bytes verdict e leads = leads

pub not_long : (bytes : List ℕ) (verdict : Verdict) → length bytes ≤ 67108864 → Leads 1 start (lines_of bytes) verdict → GivesVerdict bytes verdict
unfolding is_too_long
not_long bytes verdict short leads = short_by (nat_lt 67108864 (length bytes)) bytes verdict (le-ltb 67108864 (length bytes) short) leads

pub given_read : (bytes : List ℕ) (verdict : Verdict) → length bytes ≤ 67108864 → IsToldBy (Leads 1 start (lines_of bytes)) verdict → IfOk verdict (λ (w : Workload). IsWorkloadFile bytes w)
given_read bytes (Ok w) short told = not_long bytes (Ok w) short told
given_read bytes (Err stop) short told = tt

pub given_fault : (bytes : List ℕ) (verdict : Verdict) → length bytes ≤ 67108864 → IsToldBy (Leads 1 start (lines_of bytes)) verdict → IfErr verdict (λ (stop : FileStop). IsRefusal bytes stop)
given_fault bytes (Ok w) short told = tt
given_fault bytes (Err (Bad line why)) short told = not_long bytes (Err (Bad line why)) short told
given_fault bytes (Err OutOfMemory) short told = tt
