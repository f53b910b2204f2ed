-- One block after the other.
use Rattle.std.proofs.Common.{◌≡◌, ◌<◌, ◌≤◌, refl, sym, ap, ◌∙◌, inl, inr, ℕ, zero, suc, ◌+◌, ◌-◌, ◌/◌, ◌%◌, List, Option, None, Ok, Err, arith}
use Rattle.std.specs.Prelude.{min}
use Rattle.jfs_bits.specs.declared.rule.Rule.{Rule}
use Rattle.jfs_plain.specs.Step.{bytes_from}
use Rattle.jfs_plain.specs.declared.refusal.Refusal.{Refusal}
use Rattle.jfs_xtree.specs.Spells.{broken_for}
use Rattle.jfs_way.specs.meaning.specs.Readers.{root_of}
use Rattle.jfs_way.specs.Answer.{Answers}
use Rattle.jfs_way.specs.declared.object.Held.{Held}
use Rattle.jfs_read.specs.Read.{byte_on_way, or_next, broken_in, touched, unless_bad, stored_on, IsWayOf}

-- the blocks that are touched from here on: this one, and those behind its part
touched_more : (i m part r : ℕ) → part ≡ min (4096 - i % 4096) (suc m) → r ≡ suc m - part → touched i (suc m) ≡ suc (touched (i + part) r)
touched_more i m part zero e h = omega (arith, e, h)
touched_more i m part (suc s) e h = omega (arith, e, h)

module _ (blocks : ℕ) (pages : ℕ → List ℕ) (at : Held) (offset : ℕ) where
  abbrev broken : ℕ → ℕ → Option (ℕ × Rule)
  broken i n = broken_in blocks pages at.inode (i / 4096) (touched i n)

  abbrev here : ℕ → Option (ℕ × Rule)
  here i = broken_for blocks pages (root_of at.inode) (i / 4096)

  no_blocks : (a : ℕ) → broken_in blocks pages at.inode a 0 ≡ None
  unfolding broken_in
  no_blocks a = refl

  first_here : (i left part : ℕ) → 0 < left → part ≡ min (4096 - i % 4096) left → broken i left ≡ or_next (here i) (broken_in blocks pages at.inode (suc (i / 4096)) (touched (i + part) (left - part)))
  unfolding broken_in
  first_here i zero part l e = absurd (omega (arith, l))
  first_here i (suc m) part l e = rw (touched_more i m part (suc m - part) e refl) refl

  -- where this block's way breaks no rule, what is broken from here on is what is behind it
  pub on : (i left part : ℕ) → 0 < left → part ≡ min (4096 - i % 4096) left → here i ≡ None → broken i left ≡ broken (i + part) (left - part)
  on i left part l e none =
      first_here i left part l e ∙ ap (λ (o : Option (ℕ × Rule)). or_next o (broken_in blocks pages at.inode (suc (i / 4096)) (touched (i + part) (left - part)))) none
      ∙ next (left - part) refl
    where
      next : (r : ℕ) → left - part ≡ r → broken_in blocks pages at.inode (suc (i / 4096)) (touched (i + part) r) ≡ broken_in blocks pages at.inode ((i + part) / 4096) (touched (i + part) r)
      next zero h = no_blocks (suc (i / 4096)) ∙ sym (no_blocks ((i + part) / 4096))
      next (suc s) h = let k : suc (i / 4096) ≡ (i + part) / 4096 = omega (arith, e, h) in ap (λ (b : ℕ). broken_in blocks pages at.inode b (touched (i + part) (suc s))) k

  -- what the loop answers where a block's way ends it
  pub ends : (count done part : ℕ) (why : Refusal) → done < count → part ≡ min (4096 - (offset + done) % 4096) (count - done) → broken offset count ≡ broken (offset + done) (count - done)
      → IsWayOf {X = Unit {0}} at.page (here (offset + done)) (Err why) → Answers (stored_on blocks pages at offset count) (Err why)
  ends count done part why l e ways (inl (bad, is, told)) =
      inl (ap (λ (o : Option (ℕ × Rule)). unless_bad at.page o (bytes_from (byte_on_way blocks pages at.inode) offset count))
      (ways ∙ first_here (offset + done) (count - done) part (omega (arith, l)) e ∙ ap (λ (o : Option (ℕ × Rule)). or_next o (broken_in blocks pages at.inode (suc ((offset + done) / 4096)) (touched (offset + done + part) (count - done - part)))) is)
      ∙ ap (λ (r : Refusal). Err r) (sym told))
  ends count done part why l e ways (inr h) = inr h

  -- and where it went through all
  pub whole : (count done : ℕ) (bytes : List ℕ) → count ≤ done → done ≤ count → broken offset count ≡ broken (offset + done) (count - done) → bytes ≡ bytes_from (byte_on_way blocks pages at.inode) offset done
      → stored_on blocks pages at offset count ≡ Ok bytes
  whole count done bytes f l ways is =
      let none : count - done ≡ 0 = omega (arith, f) in
      let all : done ≡ count = omega (arith, f, l) in
      ap (λ (o : Option (ℕ × Rule)). unless_bad at.page o (bytes_from (byte_on_way blocks pages at.inode) offset count))
      (ways ∙ ap (λ (n : ℕ). broken (offset + done) n) none ∙ no_blocks ((offset + done) / 4096))
      ∙ ap (λ (n : ℕ). Ok (bytes_from (byte_on_way blocks pages at.inode) offset n)) (sym all) ∙ ap (λ (bs : List ℕ). Ok bs) (sym is)
