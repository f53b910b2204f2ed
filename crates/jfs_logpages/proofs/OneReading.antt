-- A text has one reading.
use Rattle.std.proofs.Common.{◌≡◌, ℕ, List, ◌∷◌, Ok, Err, arith}
use Rattle.jfs_bits.specs.declared.rule.Rule.{Rule}
use Rattle.jfs_logpages.specs.Back.{Met}
use Rattle.jfs_logpages.specs.Laws.{IsOnlyReading}
use Rattle.jfs_logpages.proofs.Stops.{Ending, ends-once, read-ending, broken-ending}

list_of : {xs ys : List Met} → (let x : Ending = Ok xs in let y : Ending = Ok ys in x ≡ y) → xs ≡ ys
list_of e = cc

not_both : {xs : List Met} {at : ℕ × Rule} → (let x : Ending = Ok xs in let y : Ending = Err at in x ≡ y) → ⊥
not_both e = grind arith

pub only_reading : IsOnlyReading
only_reading ring first blocks text m n ms ns some most one = (
  λ other. list_of (ends-once ring first blocks text (Ok (m ∷ ms)) (Ok (n ∷ ns)) some most (read-ending ring first blocks text m ms one) (read-ending ring first blocks text n ns other)),
  λ address rule broken. not_both (ends-once ring first blocks text (Ok (m ∷ ms)) (Err (address, rule)) some most (read-ending ring first blocks text m ms one) (broken-ending ring first blocks text address rule broken)),
)
