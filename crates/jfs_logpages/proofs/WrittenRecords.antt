-- Bytes that end with records are read as these records.
use Rattle.std.proofs.Common.{◌≡◌, ◌<◌, ◌≤◌, inl, inr, ◌+◌, ◌*◌, ◌/◌, ◌%◌, ◌-◌, ℕ, true, List, [], ◌∷◌, ◌++◌, length, take, drop, map, Option, Some, None, refl, sym, ap, subst, ◌∙◌, append_assoc, arith}
use Rattle.std.proofs.lemmas.List.{length-append, append-nil, take_at, drop_at}
use Rattle.jfs_logfmt.specs.declared.log_record.Record.{Record}
use Rattle.jfs_logfmt.specs.declared.log_record.Record.TheVariants as records
use Rattle.jfs_logfmt.specs.Text.{Spells}
use Rattle.jfs_logfmt.specs.Written.{text_of}
use Rattle.jfs_logfmt.proofs.Numbers.{written_spells, length-text}
use Rattle.jfs_logpages.specs.Back.{address_at, Met, IsMet, AreMet, AreChained, is_followed, first_of, SyncAt, point_of, newest, newest_or, GivesSome, IsGiven, FromSync, back_of}
use Rattle.jfs_logpages.specs.Records.{log_text, size_of, stand_at, IsWhole, AreWhole, first_record_of, IsChain, sync_in, later_or, newest_sync, BeginsAt}
use Rattle.jfs_logpages.specs.Laws.{RecordsAreRead, HaveSizes}

-- they are the records
pub records_stand : (from : ℕ) (rs : List Record) → map (λ m. m.is) (stand_at from rs) ≡ rs
records_stand from [] = refl
records_stand from (r ∷ rs) = ap (λ (l : List Record). r ∷ l) (records_stand (from + size_of r) rs)

-- the same address, in the window of pages from `first` on and from page number 0 on
same_address : (ring first place : ℕ) → 0 < place → address_at ring first place ≡ address_at ring 0 (4080 * first + place)
same_address ring first place some =
    let page : first + (place - 1) / 4080 ≡ 0 + (4080 * first + place - 1) / 4080 = omega (arith, some) in
    let rest : (place - 1) % 4080 ≡ (4080 * first + place - 1) % 4080 = omega (arith, some) in
    let f : ℕ → ℕ → ℕ = λ p q. 4096 * (2 + p % ring) + (9 + q) in
    ap (λ (p : ℕ). f p ((place - 1) % 4080)) page ∙ ap (λ (q : ℕ). f (0 + (4080 * first + place - 1) / 4080) q) rest

-- ---- they stand there

is_met : (blocks : ℕ) (front rest text : List ℕ) (r : Record) → IsWhole blocks r → text ≡ (front ++ text_of r) ++ rest → IsMet blocks text (record { start = length front; end = length front + size_of r; is = r })
is_met blocks front rest text r g e =
    let size = length-text r in
    let long : length (front ++ text_of r) ≡ length front + size_of r = omega (arith, length-append front (text_of r), size) in
    let cut : take (length front + size_of r) text ≡ front ++ text_of r = ap (λ (l : List ℕ). take (length front + size_of r) l) e ∙ take_at (front ++ text_of r) rest (length front + size_of r) long in
    let here : drop (length front) (take (length front + size_of r) text) ≡ text_of r = ap (λ (l : List ℕ). drop (length front) l) cut ∙ drop_at front (text_of r) (length front) refl in
    record {
      begins = omega arith;
      ends = omega (arith, ap (λ (l : List ℕ). length l) e, length-append (front ++ text_of r) rest, long);
      spells = (let P : List ℕ → Type 0 = λ l. Spells l r in subst P (sym here) (written_spells r g.fits g.numbers));
      kept = g.kept;
    }

pub are_met : (blocks from : ℕ) (front text : List ℕ) (rs : List Record) → AreWhole blocks rs → text ≡ front ++ log_text rs → from ≡ length front → AreMet blocks text from (stand_at from rs)
are_met blocks from front text [] gs e place = place ∙ sym (ap (λ (l : List ℕ). length l) (e ∙ append-nil front))
are_met blocks from front text (r ∷ rs) gs e place =
    let whole : text ≡ (front ++ text_of r) ++ log_text rs = e ∙ sym (append_assoc front (text_of r) (log_text rs)) in
    let P : ℕ → Type 0 = λ n. IsMet blocks text (record { start = n; end = n + size_of r; is = r }) in (
      refl,
      subst P (sym place) (is_met blocks front (log_text rs) text r gs.0 whole),
      are_met blocks (from + size_of r) (front ++ text_of r) text rs gs.1 whole (omega (arith, place, length-append front (text_of r), length-text r)),
    )

-- ---- and are a chain

first_is : (from : ℕ) (rs : List Record) → first_of (stand_at from rs) ≡ first_record_of rs
first_is from [] = refl
first_is from (r ∷ rs) = refl

follows : (ring first from at : ℕ) (r : Record) (rs : List Record) → at ≡ 4080 * first + from → is_followed (address_at ring 0 (at + size_of r)) r (first_record_of rs) ≡ true → is_followed (address_at ring first (from + size_of r)) r (first_of (stand_at (from + size_of r) rs)) ≡ true
follows ring first from at r rs place h =
    let sum : 4080 * first + (from + size_of r) ≡ at + size_of r = omega (arith, place) in
    let there : address_at ring first (from + size_of r) ≡ address_at ring 0 (at + size_of r) = same_address ring first (from + size_of r) (omega arith) ∙ ap (λ (n : ℕ). address_at ring 0 n) sum in
    ap (λ (a : ℕ). is_followed a r (first_of (stand_at (from + size_of r) rs))) there ∙ ap (λ (o : Option Record). is_followed (address_at ring 0 (at + size_of r)) r o) (first_is (from + size_of r) rs) ∙ h

pub are_chained : (ring first from at : ℕ) (rs : List Record) → at ≡ 4080 * first + from → IsChain ring at rs → AreChained ring first (stand_at from rs)
are_chained ring first from at [] place c = tt
are_chained ring first from at (r ∷ rs) place c =
    (follows ring first from at r rs place c.0, are_chained ring first (from + size_of r) (at + size_of r) rs (omega (arith, place)) c.1)

-- ---- where redo begins

-- a SYNCPT and what it gives, or neither
abbrev IsSame : Option SyncAt → Option ℕ → Type 0
IsSame None o = o ≡ None
IsSame (Some p) o = o ≡ Some p.address

same_or : (p q : Option SyncAt) (o u : Option ℕ) → IsSame p o → IsSame q u → IsSame (newest_or p q) (later_or o u)
same_or None q o u h k = subst (λ (x : Option ℕ). IsSame q (later_or x u)) (sym h) k
same_or (Some p) q o u h k = ap (λ (x : Option ℕ). later_or x u) h

same_point : (from : ℕ) (r : Record) → IsSame (point_of (record { start = from; end = from + size_of r; is = r })) (sync_in r)
same_point from (records.Redo _ _ _ _ _ _ _ _) = refl
same_point from (records.NoRedo _ _ _ _ _ _) = refl
same_point from (records.Update _ _ _ _ _ _) = refl
same_point from (records.Commit _ _) = refl
same_point from (records.SyncPt sync) = refl

same_newest : (from : ℕ) (rs : List Record) → IsSame (newest (stand_at from rs)) (newest_sync rs)
same_newest from [] = refl
same_newest from (r ∷ rs) =
    same_or (newest (stand_at (from + size_of r) rs)) (point_of (record { start = from; end = from + size_of r; is = r })) (newest_sync rs) (sync_in r) (same_newest (from + size_of r) rs) (same_point from r)

-- the place is that of an address which isn't 0
given : (ring first size place a : ℕ) (o : Option SyncAt) (u : Option ℕ) → IsSame o u → u ≡ Some a → 0 < a → 0 < place → place ≤ size → address_at ring first place ≡ a → IsGiven ring first size o place
given ring first size place a None u same e some low high is = absurd (grind arith)
given ring first size place a (Some p) u same e some low high is =
    let address : p.address ≡ a = (let z : Some p.address ≡ Some a = sym same ∙ e in cc) in
    inr ((λ none. omega (arith, none, address, some)), (low, high, is ∙ sym address))

ahead : (ring first size place a : ℕ) (o q : Option SyncAt) → IsGiven ring first size (newest_or o q) place → GivesSome ring first size o (λ n. n ≤ place)
ahead ring first size place a None q g = tt
ahead ring first size place a (Some p) q g = (place, g, omega arith)

-- Text that ends with such records, where redo begins at the first one: it is read as they are.
pub reads : (ring first blocks from at : ℕ) (front : List ℕ) (r : Record) (rs : List Record) →
    AreWhole blocks (r ∷ rs) → from ≡ length front → at ≡ 4080 * first + from → IsChain ring at (r ∷ rs) → back_of r ≡ 0 → BeginsAt ring at (r ∷ rs)
    → FromSync ring first blocks (front ++ log_text (r ∷ rs)) (record { start = from; end = from + size_of r; is = r }) (stand_at (from + size_of r) rs)
reads ring first blocks from at front r rs gs place sum chain anew begins =
    record {
      behind = record {
        met = met.2;
        chained = chained.1;
        ahead = ahead ring first (length text) (from + size_of r) 0 (newest (stand_at (from + size_of r) rs)) (point_of m) by_begins;
      };
      is = met.1;
      chain = (chained.0, λ _. anew);
      given = by_begins;
    }
  where
    text : List ℕ
    text = front ++ log_text (r ∷ rs)

    m : Met
    m = record { start = from; end = from + size_of r; is = r }

    met : AreMet blocks text from (stand_at from (r ∷ rs))
    met = are_met blocks from front text (r ∷ rs) gs refl place

    chained : AreChained ring first (stand_at from (r ∷ rs))
    chained = are_chained ring first from at (r ∷ rs) sum chain

    address : address_at ring first (from + size_of r) ≡ address_at ring 0 (at + size_of r)
    address = same_address ring first (from + size_of r) (omega arith) ∙ ap (λ (n : ℕ). address_at ring 0 n) (omega (arith, sum))

    by : BeginsAt ring at (r ∷ rs) → IsGiven ring first (length text) (newest (m ∷ stand_at (from + size_of r) rs)) (from + size_of r)
    by (inl e) = given ring first (length text) (from + size_of r) (address_at ring 0 (at + size_of r)) (newest (stand_at from (r ∷ rs))) (newest_sync (r ∷ rs)) (same_newest from (r ∷ rs)) e
        (omega arith) (omega arith) met.1.ends address
    by (inr e) = own (newest (stand_at (from + size_of r) rs)) (same_newest (from + size_of r) rs) r e.0
      where
        own : (o : Option SyncAt) → IsSame o (newest_sync rs) → (x : Record) → x ≡ records.SyncPt 0 → IsGiven ring first (length text) (newest_or o (point_of (record { start = from; end = from + size_of r; is = x }))) (from + size_of r)
        own None same x h = let P : Record → Type 0 = λ z. IsGiven ring first (length text) (newest_or None (point_of (record { start = from; end = from + size_of r; is = z }))) (from + size_of r) in subst P (sym h) (inl (refl, refl))
        own (Some p) same x h = absurd (let z : Some p.address ≡ None = sym same ∙ e.1 in grind arith)

    by_begins : IsGiven ring first (length text) (newest (m ∷ stand_at (from + size_of r) rs)) (from + size_of r)
    by_begins = by begins

pub records_are_read : RecordsAreRead
records_are_read ring first blocks front r rs whole chain anew begins = reads ring first blocks (length front) (4080 * first + length front) front r rs whole refl refl chain anew begins

pub length-log : HaveSizes
length-log [] = refl
length-log (r ∷ rs) = omega (arith, length-append (text_of r) (log_text rs), length-text r, length-log rs)
