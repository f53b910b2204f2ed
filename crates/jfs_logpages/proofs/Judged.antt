-- What the reading backwards knows, record by record.
use Rattle.std.proofs.Common.{◌≡◌, ◌≤◌, ◌<◌, ◌*◌, ◌/◌, ℕ, List, [], ◌∷◌, ◌++◌, length, take, Bool, true, IsTrue, Option, Some, None, IfSome, refl, sym, ap, subst, ◌∙◌, ◌⊎◌, inl, inr, arith}
use Rattle.std.proofs.lemmas.List.{reverse-append}
use Rattle.jfs_bits.specs.declared.rule.Rule.{Rule}
use Rattle.jfs_logfmt.specs.declared.log_record.Record.{Record}
use Rattle.jfs_logfmt.specs.Rules.{FirstBroken}
use Rattle.jfs_logpages.specs.Back.{SyncAt, Met, IsMet, HasRead, Gives, GivesSome, IsGiven, KeepsChain, BreaksAt, no_record, no_chain, no_place, newest, address_at, is_followed}
use Rattle.jfs_logpages.specs.Outcome.{IsBadLog, IsBroken, IsPlaceOf, IsPointOf, IsReading}
use Rattle.jfs_logpages.specs.declared.error.RingError.{RingError}
use Rattle.jfs_logpages.specs.declared.error.RingError.TheVariants as errors
use Rattle.jfs_logpages.specs.declared.point.Point.{Point}
use Rattle.jfs_logpages.proofs.Places.{gives-once}

pub bad-map : (P Q : ℕ → Rule → Type 0) (error : RingError) → ((address : ℕ) → (rule : Rule) → P address rule → Q address rule) → IsBadLog P error → IsBadLog Q error
bad-map P Q (errors.BadLog address rule) f is = f address rule is
bad-map P Q errors.Memory f is = is
bad-map P Q (errors.Read fault) f is = is
bad-map P Q (errors.ForeignLog label) f is = is

-- a SYNCPT whose place isn't among the first bytes
pub not-ahead : (ring first size : ℕ) (latest : Option SyncAt) (point : Point) (start end : ℕ) → 0 < ring → size ≤ 4080 * (ring / 2) → IsPointOf ring first size latest (Some point) → IfSome point.place (λ place. start < place)
    → (IsGiven ring first size latest end → ⊥) → GivesSome ring first size latest (λ place. (place ≡ end) ⊎ (place ≤ start)) → ⊥
not-ahead ring first size None point start end some half is past apart given = is
not-ahead ring first size (Some p) point start end some half is past apart given = by given.2
  where
    at : (place : Option ℕ) → IsPlaceOf ring first size p place → IfSome place (λ n. start < n) → given.0 ≤ start → ⊥
    at None is past low = is given.0 given.1
    at (Some n) is past low = omega (arith, past, low, gives-once ring first size p given.0 n some half given.1 is)

    by : (given.0 ≡ end) ⊎ (given.0 ≤ start) → ⊥
    by (inl e) = apart (subst (λ (n : ℕ). Gives ring first size p n) e given.1)
    by (inr low) = at point.place is.1 past low

pub newest-there : (ring first size : ℕ) (latest : Option SyncAt) (point : Point) (address : ℕ) → IsPointOf ring first size latest (Some point) → address ≡ address_at ring first point.end
    → (p : SyncAt) × (latest ≡ Some p) × (address ≡ address_at ring first p.end)
newest-there ring first size None point address is e = absurd is
newest-there ring first size (Some p) point address is e = (p, refl, e ∙ ap (λ (n : ℕ). address_at ring first n) is.0)

pub breaks-judged : (ring first blocks : ℕ) (text : List ℕ) (m : Met) (ms : List Met) → HasRead ring first blocks text ms m.end → IsMet blocks text m → (address : ℕ) → (rule : Rule) → IsBroken ring first (length text) m ms address rule
    → BreaksAt ring first blocks text address rule
breaks-judged ring first blocks text m ms read is address rule (inl chain) = no_chain m ms read is chain.2 chain.1 chain.0
breaks-judged ring first blocks text m ms read is address rule (inr sync) = no_place m ms read is sync.1 sync.2 sync.3.0 sync.3.1 sync.3.2 sync.0

pub breaks-record : (ring first blocks : ℕ) (text : List ℕ) (ms : List Met) (left at : ℕ) → HasRead ring first blocks text ms left → 0 < left → at ≡ address_at ring first left → (address : ℕ) → (rule : Rule)
    → (address ≡ at) × FirstBroken blocks (take left text) rule → BreaksAt ring first blocks text address rule
breaks-record ring first blocks text ms left at read some e address rule broken = no_record ms left read some broken.1 (broken.0 ∙ e)

pub reading-more : (ring first blocks : ℕ) (text : List ℕ) (m : Met) (next : Option Record) (old new : Option Point) (ends : List ℕ) (reading : IsReading ring first blocks text m.end next old ends) → IsMet blocks text m
    → KeepsChain ring first (length text) m reading.ms → GivesSome ring first (length text) (newest (m ∷ reading.ms)) (λ place. place ≤ m.start)
    → IsPointOf ring first (length text) (newest (m ∷ reading.ms)) new → IfSome new (λ p. (0 < p.end) × (p.end ≤ length text))
    → IsReading ring first blocks text m.start (Some m.is) new (ends ++ m.end ∷ [])
reading-more ring first blocks text m next old new ends reading is chain ahead point within = record {
  ms = m ∷ reading.ms;
  read = record { met = (refl, is, reading.read.met); chained = (chain.0, reading.read.chained); ahead = ahead };
  behind = refl;
  newer = point;
  places = ap (λ (es : List ℕ). m.end ∷ es) reading.places ∙ sym (reverse-append ends (m.end ∷ []));
  within = omega (arith, is.begins, is.ends);
  point_within = within;
}

pub followed : (at here : ℕ) (r : Record) (next behind : Option Record) (b : Bool) → b ≡ true → b ≡ is_followed at r next → at ≡ here → next ≡ behind → IsTrue (is_followed here r behind)
followed at here r next behind b holds is e f =
    sym (ap (λ (n : ℕ). is_followed n r behind) e) ∙ sym (ap (λ (o : Option Record). is_followed at r o) f) ∙ sym is ∙ holds
