-- An index by its entries and whether it is spent.
use Rattle.std.proofs.Common.{◌≡◌, Bool, true, false, List, ap, ap₂, ◌∙◌, sym}
use Rattle.column_index.specs.declared.entry.Entry.{Entry}
use Rattle.column_index.specs.Entries.{IsOrdered}
use Rattle.column_index.specs.Seen.{Seen, IsSound, index_of, spent_index}

abbrev pub seen : List Entry → Bool → Seen
seen entries spent = record { entries = entries; spent = spent }

pub is_spent : (entries : List Entry) (spent : Bool) (now : Seen) → IsSound entries spent → spent ≡ true → seen entries spent ≡ now → now ≡ spent_index
unfolding spent_index
is_spent entries spent now sound h is = sym is ∙ ap₂ seen (sound.gone h) h

pub entries_are : (entries : List Entry) (spent : Bool) (now : Seen) → seen entries spent ≡ now → entries ≡ now.entries
entries_are entries spent now is = ap (λ (s : Seen). s.entries) is

pub sound_of : (entries : List Entry) (spent : Bool) → spent ≡ false → IsOrdered entries → IsSound entries spent
sound_of entries spent fresh ordered = record { ordered = ordered; gone = λ h. absurd (let f : true ≡ false = sym h ∙ fresh in cc) }

pub index_is : (entries news : List Entry) (spent : Bool) → spent ≡ false → entries ≡ news → seen entries spent ≡ index_of news
unfolding index_of
index_is entries news spent fresh same = ap₂ seen same fresh
