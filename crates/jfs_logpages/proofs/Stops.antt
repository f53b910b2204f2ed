-- Where a reading of the records ends: at one place, and with one answer.
use Rattle.std.proofs.Common.{◌≡◌, ◌≤◌, ◌<◌, ◌*◌, ◌/◌, ℕ, IsTrue, List, [], ◌∷◌, ◌++◌, length, take, drop, Option, Some, None, Result, Ok, Err, refl, sym, ap, subst, ◌∙◌, ◌⊎◌, inl, inr, append_assoc, arith}
use Rattle.std.proofs.lemmas.List.{take-append-drop, length-take-le, append-nil}
use Rattle.jfs_bits.specs.declared.rule.Rule.{Rule}
use Rattle.jfs_bits.specs.declared.rule.Rule.TheVariants as rules
use Rattle.jfs_logfmt.specs.declared.log_record.Record.{Record}
use Rattle.jfs_logfmt.specs.Text.{Spells}
use Rattle.jfs_logfmt.specs.Rules.{FirstBroken}
use Rattle.jfs_logfmt.proofs.Cut.{none_is_broken, one_at_end, one_broken}
use Rattle.jfs_logpages.specs.Back.{SyncAt, Met, IsMet, AreMet, AreChained, HasRead, GivesSome, IsGiven, is_followed, first_of, KeepsChain, BreaksAt, no_sync, no_record, no_chain, no_place, FromSync, newest, newest_or, point_of, address_at}
use Rattle.jfs_logpages.specs.Outcome.{IsBroken}
use Rattle.jfs_logpages.proofs.Places.{gives-once}

-- ---- records that end at one place

before-text : (start end : ℕ) (text : List ℕ) → start < end → end ≤ length text → length (take start (take end text)) ≡ start
before-text start end text begins ends = length-take-le start (take end text) (omega (arith, begins, length-take-le end text ends))

pub met-at : (blocks : ℕ) (text : List ℕ) (a b : Met) → a.end ≡ b.end → IsMet blocks text a → IsMet blocks text b → (a.start ≡ b.start) × (a.is ≡ b.is)
met-at blocks text a b e is other =
    let bytes = take a.end text in
    let same : take b.end text ≡ bytes = ap (λ (n : ℕ). take n text) (sym e) in
    let one = one_at_end bytes (take a.start bytes) (drop a.start bytes) a.is (take b.start bytes) (drop b.start bytes) b.is
    (sym (take-append-drop a.start bytes)) is.spells
    (sym (take-append-drop b.start bytes)) (subst (λ (l : List ℕ). Spells (drop b.start l) b.is) same other.spells) in (
      sym (before-text a.start a.end text is.begins is.ends) ∙ one.1 ∙ ap (λ (l : List ℕ). length (take b.start l)) (sym same) ∙ before-text b.start b.end text other.begins other.ends,
      one.0,
    )

pub met-once : (blocks : ℕ) (text : List ℕ) (a b : Met) → a.end ≡ b.end → IsMet blocks text a → IsMet blocks text b → a ≡ b
met-once blocks text a b e is other =
    let same = met-at blocks text a b e is other in
    ap (λ (n : ℕ). record { start = n; end = a.end; is = a.is }) same.0
    ∙ ap (λ (n : ℕ). record { start = b.start; end = n; is = a.is }) e
    ∙ ap (λ (r : Record). record { start = b.start; end = b.end; is = r }) same.1

not-broken : (blocks : ℕ) (text : List ℕ) (m : Met) (left : ℕ) (rule : Rule) → m.end ≡ left → IsMet blocks text m → FirstBroken blocks (take left text) rule → ⊥
not-broken blocks text m left rule e is broken =
    let bytes = take m.end text in
    none_is_broken blocks bytes (take m.start bytes) (drop m.start bytes) m.is (sym (take-append-drop m.start bytes)) is.spells is.kept rule
    (subst (λ (n : ℕ). FirstBroken blocks (take n text) rule) (sym e) broken)

-- ---- of two readings one goes on where the other is

met-behind : (blocks : ℕ) (text : List ℕ) (from : ℕ) (front ms : List Met) (y : Met) → AreMet blocks text from (front ++ y ∷ ms) → IsMet blocks text y × AreMet blocks text y.end ms
met-behind blocks text from [] ms y are = (are.1, are.2)
met-behind blocks text from (x ∷ front) ms y are = met-behind blocks text x.end front ms y are.2

met-from : (blocks : ℕ) (text : List ℕ) (a b : ℕ) (ms : List Met) → AreMet blocks text a ms → AreMet blocks text b ms → a ≡ b
met-from blocks text a b [] are others = are ∙ sym others
met-from blocks text a b (m ∷ ms) are others = sym are.0 ∙ others.0

Last : List Met → Type 0
Last front = (front ≡ []) ⊎ ((before : List Met) × (y : Met) × (front ≡ before ++ y ∷ []))

last-of : (front : List Met) → Last front
unfolding Last
last-of [] = inl refl
last-of (x ∷ front) = inr (by (last-of front))
  where
    by : Last front → (before : List Met) × (y : Met) × (x ∷ front ≡ before ++ y ∷ [])
    by (inl none) = ([], x, ap (λ (l : List Met). x ∷ l) none)
    by (inr some) = (x ∷ some.0, some.1, ap (λ (l : List Met). x ∷ l) some.2)

-- the second list is the first with more records before it, or the first is the second with some before it
abbrev Ordered : List Met → List Met → Type 0
Ordered ms ns = ((front : List Met) × (ns ≡ front ++ ms)) ⊎ ((front : List Met) × (m : Met) × (ms ≡ front ++ m ∷ ns))

ordered : (blocks : ℕ) (text : List ℕ) (left other : ℕ) (ms ns : List Met) → AreMet blocks text left ms → AreMet blocks text other ns → Ordered ms ns
unfolding Last
ordered blocks text left other [] ns are others = inl (ns, sym (append-nil ns))
ordered blocks text left other (m ∷ ms) ns are others = by (ordered blocks text m.end other ms ns are.2 others)
  where
    with_last : (front : List Met) → ns ≡ front ++ ms → Last front → Ordered (m ∷ ms) ns
    with_last front e (inl none) = inr ([], m, ap (λ (l : List Met). m ∷ l) (sym (e ∙ ap (λ (f : List Met). f ++ ms) none)))
    with_last front e (inr some) =
        let parts : ns ≡ some.0 ++ some.1 ∷ ms = e ∙ ap (λ (f : List Met). f ++ ms) some.2 ∙ append_assoc some.0 (some.1 ∷ []) ms in
        let there = met-behind blocks text other some.0 ms some.1 (subst (λ (l : List Met). AreMet blocks text other l) parts others) in
        let same : some.1 ≡ m = met-once blocks text some.1 m (met-from blocks text some.1.end m.end ms there.1 are.2) there.0 are.1 in
        inl (some.0, parts ∙ ap (λ (x : Met). some.0 ++ x ∷ ms) same)

    by : Ordered ms ns → Ordered (m ∷ ms) ns
    by (inl more) = with_last more.0 more.1 (last-of more.0)
    by (inr less) = inr (m ∷ less.0, less.1, ap (λ (l : List Met). m ∷ l) less.2)

-- ---- what a reading says of a record that it has passed

-- a record that was passed, and the records behind it
record Passed (ring first blocks : ℕ) (text : List ℕ) (m : Met) (ms : List Met) : Type 0 where
  pub is : IsMet blocks text m
  pub chain : IsTrue (is_followed (address_at ring first m.end) m.is (first_of ms))
  pub ahead : GivesSome ring first (length text) (newest (m ∷ ms)) (λ place. place ≤ m.start)

newest-kept : (front : List Met) (m : Met) (ms : List Met) (p : SyncAt) → newest (m ∷ ms) ≡ Some p → newest (front ++ m ∷ ms) ≡ Some p
newest-kept [] m ms p e = e
newest-kept (x ∷ front) m ms p e = ap (λ (o : Option SyncAt). newest_or o (point_of x)) (newest-kept front m ms p e)

met-order : (blocks : ℕ) (text : List ℕ) (from : ℕ) (front ms : List Met) (m : Met) → AreMet blocks text from (front ++ m ∷ ms) → from ≤ m.start
met-order blocks text from [] ms m are = omega (arith, are.0)
met-order blocks text from (x ∷ front) ms m are = omega (arith, are.0, are.1.begins, met-order blocks text x.end front ms m are.2)

chained-at : (ring first : ℕ) (front ms : List Met) (m : Met) → AreChained ring first (front ++ m ∷ ms) → IsTrue (is_followed (address_at ring first m.end) m.is (first_of ms))
chained-at ring first [] ms m chained = chained.0
chained-at ring first (x ∷ front) ms m chained = chained-at ring first front ms m chained.1

passed : (ring first blocks : ℕ) (text : List ℕ) (left : ℕ) (front ms : List Met) (m : Met) → HasRead ring first blocks text (front ++ m ∷ ms) left → Passed ring first blocks text m ms
passed ring first blocks text left front ms m read = record {
  is = (met-behind blocks text left front ms m read.met).0;
  chain = chained-at ring first front ms m read.chained;
  ahead = by (newest (m ∷ ms)) refl;
}
  where
    by : (o : Option SyncAt) → newest (m ∷ ms) ≡ o → GivesSome ring first (length text) o (λ place. place ≤ m.start)
    by None e = tt
    by (Some p) e =
        let given = subst (λ (o : Option SyncAt). GivesSome ring first (length text) o (λ place. place ≤ left)) (newest-kept front m ms p e) read.ahead in
        (given.0, given.1, omega (arith, given.2, met-order blocks text left front ms m read.met))

-- redo doesn't begin at a record that was passed
not-there : (ring first size : ℕ) (latest : Option SyncAt) (start end : ℕ) → 0 < ring → size ≤ 4080 * (ring / 2) → start < end → GivesSome ring first size latest (λ place. place ≤ start) → IsGiven ring first size latest end → ⊥
not-there ring first size None start end some half begins given is = is
not-there ring first size (Some p) start end some half begins given is = omega (arith, begins, given.2, gives-once ring first size p given.0 end some half given.1 is)

earlier : (ring first size : ℕ) (latest : Option SyncAt) (start end : ℕ) → GivesSome ring first size latest (λ place. place ≤ start) → GivesSome ring first size latest (λ place. (place ≡ end) ⊎ (place ≤ start))
earlier ring first size None start end given = tt
earlier ring first size (Some p) start end given = (given.0, given.1, inr given.2)

here : (ring first size : ℕ) (latest : Option SyncAt) (start end : ℕ) → IsGiven ring first size latest end → GivesSome ring first size latest (λ place. (place ≡ end) ⊎ (place ≤ start))
here ring first size None start end is = absurd is
here ring first size (Some p) start end is = (end, is, inl refl)

-- ---- where a reading stops

-- the records from where redo begins on, or an address and the rule that is broken there
abbrev pub Ending : Type 0
Ending = Result (List Met) (ℕ × Rule)

-- the record that was read last ends the reading
abbrev IsEnd : ℕ → ℕ → ℕ → Met → List Met → Ending → Type 0
IsEnd ring first size m ms (Ok records) = KeepsChain ring first size m ms × IsGiven ring first size (newest (m ∷ ms)) m.end × (records ≡ m ∷ ms)
IsEnd ring first size m ms (Err (address, rule)) = IsBroken ring first size m ms address rule

-- no byte is left; or those that are left end with no record; or with a record that ends the reading
abbrev pub Stops : ℕ → ℕ → ℕ → List ℕ → List Met → ℕ → Ending → Type 0
Stops ring first blocks text ms left ending =
    ((left ≡ 0) × (ending ≡ Err (0, rules.Sync)))
    ⊎ (((rule : Rule) × (0 < left) × FirstBroken blocks (take left text) rule × (ending ≡ Err (address_at ring first left, rule)))
    ⊎ ((m : Met) × (m.end ≡ left) × IsMet blocks text m × IsEnd ring first (length text) m ms ending))

-- a record that was passed doesn't end a reading
not-end : (ring first blocks : ℕ) (text : List ℕ) (m : Met) (ms : List Met) (ending : Ending) → 0 < ring → length text ≤ 4080 * (ring / 2) → Passed ring first blocks text m ms → IsEnd ring first (length text) m ms ending → ⊥
not-end ring first blocks text m ms (Ok records) some half p end = not-there ring first (length text) (newest (m ∷ ms)) m.start m.end some half p.is.begins p.ahead end.1
not-end ring first blocks text m ms (Err (address, rule)) some half p (inl chain) =
    chain.2 (p.chain, λ given. absurd (not-there ring first (length text) (newest (m ∷ ms)) m.start m.end some half p.is.begins p.ahead given))
not-end ring first blocks text m ms (Err (address, rule)) some half p (inr sync) = sync.2 (earlier ring first (length text) (newest (m ∷ ms)) m.start m.end p.ahead)

not-passed : (ring first blocks : ℕ) (text : List ℕ) (m : Met) (ms : List Met) (left : ℕ) (ending : Ending) → 0 < ring → length text ≤ 4080 * (ring / 2) → m.end ≡ left → Passed ring first blocks text m ms → Stops ring first blocks text ms left ending → ⊥
not-passed ring first blocks text m ms left ending some half e p (inl none) = omega (arith, none.0, e, p.is.begins)
not-passed ring first blocks text m ms left ending some half e p (inr (inl broken)) = not-broken blocks text m left broken.0 e p.is broken.2
not-passed ring first blocks text m ms left ending some half e p (inr (inr at)) =
    not-end ring first blocks text m ms ending some half p
    (subst (λ (x : Met). IsEnd ring first (length text) x ms ending) (met-once blocks text at.0 m (at.1 ∙ sym e) at.2 p.is) at.3)

-- a record ends a reading in one way
end-once : (ring first size : ℕ) (m : Met) (ms : List Met) (one other : Ending) → IsEnd ring first size m ms one → IsEnd ring first size m ms other → one ≡ other
end-once ring first size m ms (Ok a) (Ok b) x y = ap (λ (l : List Met). Ok l) (x.2 ∙ sym y.2)
end-once ring first size m ms (Ok a) (Err (address, rule)) x (inl chain) = absurd (chain.2 x.0)
end-once ring first size m ms (Ok a) (Err (address, rule)) x (inr sync) = absurd (sync.2 (here ring first size (newest (m ∷ ms)) m.start m.end x.1))
end-once ring first size m ms (Err (address, rule)) (Ok b) (inl chain) y = absurd (chain.2 y.0)
end-once ring first size m ms (Err (address, rule)) (Ok b) (inr sync) y = absurd (sync.2 (here ring first size (newest (m ∷ ms)) m.start m.end y.1))
end-once ring first size m ms (Err (address, rule)) (Err (at, broken)) (inl x) (inl y) = ap (λ (n : ℕ). Err (n, rule)) (x.1 ∙ sym y.1) ∙ ap (λ (r : Rule). Err (at, r)) (x.0 ∙ sym y.0)
end-once ring first size m ms (Err (address, rule)) (Err (at, broken)) (inl x) (inr y) = absurd (x.2 y.1)
end-once ring first size m ms (Err (address, rule)) (Err (at, broken)) (inr x) (inl y) = absurd (y.2 x.1)
end-once ring first size m ms (Err (address, rule)) (Err (at, broken)) (inr x) (inr y) =
    let same : x.3.0 ≡ y.3.0 = some-once (newest (m ∷ ms)) x.3.0 y.3.0 x.3.1 y.3.1 in
    ap (λ (n : ℕ). Err (n, rule)) (x.3.2 ∙ ap (λ (p : SyncAt). address_at ring first p.end) same ∙ sym y.3.2) ∙ ap (λ (r : Rule). Err (at, r)) (x.0 ∙ sym y.0)
  where
    some-once : (o : Option SyncAt) (p q : SyncAt) → o ≡ Some p → o ≡ Some q → p ≡ q
    some-once o p q e f = let both : Some p ≡ Some q = sym e ∙ f in cc

-- one reading stops in one way
stop-once : (ring first blocks : ℕ) (text : List ℕ) (ms : List Met) (left : ℕ) (one other : Ending) → Stops ring first blocks text ms left one → Stops ring first blocks text ms left other → one ≡ other
stop-once ring first blocks text ms left one other (inl x) (inl y) = x.1 ∙ sym y.1
stop-once ring first blocks text ms left one other (inl x) (inr (inl y)) = absurd (omega (arith, x.0, y.1))
stop-once ring first blocks text ms left one other (inl x) (inr (inr y)) = absurd (omega (arith, x.0, y.1, y.2.begins))
stop-once ring first blocks text ms left one other (inr (inl x)) (inl y) = absurd (omega (arith, y.0, x.1))
stop-once ring first blocks text ms left one other (inr (inl x)) (inr (inl y)) =
    x.3 ∙ ap (λ (r : Rule). Err (address_at ring first left, r)) (one_broken blocks (take left text) x.0 y.0 x.2 y.2) ∙ sym y.3
stop-once ring first blocks text ms left one other (inr (inl x)) (inr (inr y)) = absurd (not-broken blocks text y.0 left x.0 y.1 y.2 x.2)
stop-once ring first blocks text ms left one other (inr (inr x)) (inl y) = absurd (omega (arith, y.0, x.1, x.2.begins))
stop-once ring first blocks text ms left one other (inr (inr x)) (inr (inl y)) = absurd (not-broken blocks text x.0 left y.0 x.1 x.2 y.2)
stop-once ring first blocks text ms left one other (inr (inr x)) (inr (inr y)) =
    end-once ring first (length text) y.0 ms one other
    (subst (λ (m : Met). IsEnd ring first (length text) m ms one) (met-once blocks text x.0 y.0 (x.1 ∙ sym y.1) x.2 y.2) x.3) y.3

-- ---- all readings of a text stop in one way

pub record IsEnding (ring first blocks : ℕ) (text : List ℕ) (ending : Ending) : Type 0 where
  pub ms : List Met
  pub left : ℕ
  pub read : HasRead ring first blocks text ms left
  pub stops : Stops ring first blocks text ms left ending

-- a reading that goes on where another one stops
not-on : (ring first blocks : ℕ) (text : List ℕ) (ms : List Met) (left : ℕ) (ending : Ending) (front : List Met) (m : Met) (ns : List Met) (other : ℕ) → 0 < ring → length text ≤ 4080 * (ring / 2)
    → HasRead ring first blocks text ms left → Stops ring first blocks text ms left ending → ns ≡ front ++ m ∷ ms → HasRead ring first blocks text ns other → ⊥
not-on ring first blocks text ms left ending front m ns other some half read stops e on =
    let whole = subst (λ (l : List Met). HasRead ring first blocks text l other) e on in
    let behind = met-behind blocks text other front ms m whole.met in
    not-passed ring first blocks text m ms left ending some half (met-from blocks text m.end left ms behind.1 read.met) (passed ring first blocks text other front ms m whole) stops

pub ends-once : (ring first blocks : ℕ) (text : List ℕ) (one other : Ending) → 0 < ring → length text ≤ 4080 * (ring / 2) → IsEnding ring first blocks text one → IsEnding ring first blocks text other → one ≡ other
unfolding Last
ends-once ring first blocks text one other some half x y = by (ordered blocks text x.left y.left x.ms y.ms x.read.met y.read.met)
  where
    same : y.ms ≡ x.ms → one ≡ other
    same e =
        let left : y.left ≡ x.left = met-from blocks text y.left x.left x.ms (subst (λ (l : List Met). AreMet blocks text y.left l) e y.read.met) x.read.met in
        stop-once ring first blocks text x.ms x.left one other x.stops
        (subst (λ (n : ℕ). Stops ring first blocks text x.ms n other) left (subst (λ (l : List Met). Stops ring first blocks text l y.left other) e y.stops))

    longer : (front : List Met) → y.ms ≡ front ++ x.ms → Last front → one ≡ other
    longer front e (inl none) = same (e ∙ ap (λ (f : List Met). f ++ x.ms) none)
    longer front e (inr last) =
        absurd (not-on ring first blocks text x.ms x.left one last.0 last.1 y.ms y.left some half x.read x.stops
        (e ∙ ap (λ (f : List Met). f ++ x.ms) last.2 ∙ append_assoc last.0 (last.1 ∷ []) x.ms) y.read)

    by : Ordered x.ms y.ms → one ≡ other
    by (inl more) = longer more.0 more.1 (last-of more.0)
    by (inr less) = absurd (not-on ring first blocks text y.ms y.left other less.0 less.1 x.ms x.left some half y.read y.stops less.2 x.read)

pub broken-ending : (ring first blocks : ℕ) (text : List ℕ) (address : ℕ) (rule : Rule) → BreaksAt ring first blocks text address rule → IsEnding ring first blocks text (Err (address, rule))
broken-ending ring first blocks text address rule (no_sync ms read a r) = record { ms = ms; left = 0; read = read; stops = inl (refl, ap (λ (n : ℕ). Err (n, rule)) a ∙ ap (λ (x : Rule). Err (0, x)) r) }
broken-ending ring first blocks text address rule (no_record ms left read some broken a) = record { ms = ms; left = left; read = read; stops = inr (inl (rule, some, broken, ap (λ (n : ℕ). Err (n, rule)) a)) }
broken-ending ring first blocks text address rule (no_chain m ms read is chain a r) = record { ms = ms; left = m.end; read = read; stops = inr (inr (m, refl, is, inl (r, a, chain))) }
broken-ending ring first blocks text address rule (no_place m ms read is chain sync p e a r) = record { ms = ms; left = m.end; read = read; stops = inr (inr (m, refl, is, inr (r, chain, sync, (p, e, a)))) }

pub read-ending : (ring first blocks : ℕ) (text : List ℕ) (m : Met) (ms : List Met) → FromSync ring first blocks text m ms → IsEnding ring first blocks text (Ok (m ∷ ms))
read-ending ring first blocks text m ms from = record { ms = ms; left = m.end; read = from.behind; stops = inr (inr (m, refl, from.is, (from.chain, from.given, refl))) }
