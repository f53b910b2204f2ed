-- What a pass knows once the volume was asked.
use Rattle.std.proofs.Common.{◌≡◌, ℕ, suc, Bool, List, [], ◌∷◌, ◌++◌, length, false, append_assoc, append-nil, refl, sym, ap, subst, ◌∙◌, arith}
use Rattle.jfs_bits.specs.declared.descriptor.Moment.{Moment}
use Rattle.jfs_plain.specs.declared.call.Entry.{Entry}
use Rattle.jfs_plain.specs.declared.reply.Reply.{Reply}
use Rattle.jfs_turns.specs.Lists.{Base, IsPrefix}
use Rattle.jfs_turns.specs.Standing.{Standing, VolumeStands}
use Rattle.jfs_turns.specs.Told.{saw_durable}
use Rattle.jfs_turns.specs.Views.{Seated}
use Rattle.jfs_turns.specs.declared.view.View.{View}
use Rattle.jfs_groups.specs.Commit.{GoesOn}
use Rattle.jfs_groups.specs.Group.{Tells, Stays}
use Rattle.jfs_serving.specs.Calls.{Asked, WaitsIf, IsEntryOf, Joins}
use Rattle.jfs_serving.specs.Called.{Keeps, IsAnsweredAt}
use Rattle.jfs_serving.specs.Gave.{HasJoined}
use Rattle.jfs_serving.specs.Held.{IsJoined, with_entry}
use Rattle.jfs_serving.specs.declared.serves.Given.{Given}
use Rattle.jfs_serving.specs.declared.serves.Given.TheVariants.{Replied}

prefix_trans : (xs ys zs : List ℕ) → IsPrefix xs ys → IsPrefix ys zs → IsPrefix xs zs
prefix_trans xs ys zs a b = (a.0 ++ b.0, sym (append_assoc xs a.0 b.0) ∙ ap (λ (l : List ℕ). l ++ b.0) a.1 ∙ b.1)

module _ {E : Type 0} where
  pub keeps_on : (u v w : View E) → Keeps u v → Keeps v w → Keeps u w
  keeps_on u v w a b = record {
    number = b.number ∙ a.number;
    base = b.base ∙ a.base;
    passes = (b.passes.0 ∙ a.passes.0, b.passes.1 ∙ a.passes.1, b.passes.2 ∙ a.passes.2);
    points = prefix_trans u.points v.points w.points a.points b.points;
    durable = omega (arith, a.durable, b.durable);
    stable = omega (arith, a.stable, b.stable);
  }

  pub keeps_of : (client : E → ℕ) (v w : View E) → GoesOn client v w → Keeps v w
  keeps_of client v w g = record { number = g.number; base = g.base; passes = g.passes; points = g.points; durable = g.durable; stable = g.stable }

  -- one entry more, and turns that are given
  pub keeps_with : (u w : View E) (e : E) → w ≡ record (with_entry u e) { volume = false; appends = false } → Keeps u w
  keeps_with u w e is = subst (λ z. Keeps u z) (sym is) (record { number = refl; base = refl; passes = (refl, refl, refl); points = ([], append-nil u.points); durable = omega arith; stable = omega arith })

  pub keeps_with_both : (u w : View E) (e : E) → w ≡ record (with_entry u e) { volume = false; appends = false; log = false } → Keeps u w
  keeps_with_both u w e is = subst (λ z. Keeps u z) (sym is) (record { number = refl; base = refl; passes = (refl, refl, refl); points = ([], append-nil u.points); durable = omega arith; stable = omega arith })

  pub same_goes : (client : E → ℕ) (u : View E) → GoesOn client u u
  same_goes client u = record { number = refl; base = refl; passes = (refl, refl, refl); list = ([], append-nil u.list, tt); points = ([], append-nil u.points); durable = omega arith; stable = omega arith }

  -- turns that are given
  pub given_volume : (client : E → ℕ) (u w : View E) → w ≡ record u { volume = false; appends = false } → GoesOn client u w
  given_volume client u w is = subst (λ z. GoesOn client u z) (sym is) (record { number = refl; base = refl; passes = (refl, refl, refl); list = ([], append-nil u.list, tt); points = ([], append-nil u.points); durable = omega arith; stable = omega arith })

  pub given_both : (client : E → ℕ) (u w : View E) → w ≡ record u { volume = false; appends = false; log = false } → GoesOn client u w
  given_both client u w is = subst (λ z. GoesOn client u z) (sym is) (record { number = refl; base = refl; passes = (refl, refl, refl); list = ([], append-nil u.list, tt); points = ([], append-nil u.points); durable = omega arith; stable = omega arith })

module _ {V L E : Type 0} (of_volume : Standing V E) where
  -- the volume is told what is durable
  pub told_stands : (x y z : V) (m m' : Seated V L E) (r : ℕ) → saw_durable m r m' → VolumeStands of_volume x m.0 → y ≡ x → Tells of_volume y r z → VolumeStands of_volume z m'.0
  told_stands x y z m m' r saw s same tells =
      let new = tells m.0.base m.0.list m.0.taken s.0 m.0.points s.1 (subst (λ v. of_volume v m.0.base m.0.list m.0.taken s.0 m.0.points s.1) (sym same) s.2) in
      subst (λ (k : Seated V L E). VolumeStands of_volume z k.0) (sym saw.0) (r, s.1, new, omega arith, s.4)

  pub saw_goes : (client : E → ℕ) (m m' : Seated V L E) (r : ℕ) → saw_durable m r m' → GoesOn client m.0 m'.0
  saw_goes client m m' r saw = subst (λ (k : Seated V L E). GoesOn client m.0 k.0) (sym saw.0) (record { number = refl; base = refl; passes = (refl, refl, refl); list = ([], append-nil m.0.list, tt); points = ([], append-nil m.0.points); durable = saw.1; stable = omega arith })

module _ {V E : Type 0} (of_volume : Standing V E) where
  pub stays_stands : (x y : V) (u : View E) → Stays of_volume x y → VolumeStands of_volume x u → VolumeStands of_volume y u
  stays_stands x y u stays s = (s.0, s.1, stays u.base u.list u.taken s.0 u.points s.1 s.2, s.3, s.4)

module _ {V E : Type 0} (client : E → ℕ) (entry : E → Entry) (moment : E → Moment) (of_volume : Standing V E) (answers : Asked → V → V → Given → Type 0) where
  -- the volume gave the call its entry
  pub joined : (a : Asked) (reply : Reply) (number : ℕ) (waits : Bool) (u : View E) (x y : V) (e : E) → VolumeStands of_volume x u → IsEntryOf client entry moment a reply e → Joins of_volume e number x y → answers a x y (Replied reply number waits)
      → IsJoined client entry moment of_volume answers a reply u y e × (number ≡ suc (length u.list))
  joined a reply number waits u x y e s is joins answered =
      let new = joins u.base u.list u.taken s.0 u.points s.1 s.2 in (
        record {
          is = is;
          stands = (s.0, s.1, new.0, s.3, s.4);
          answered = record { before = x; after = y; waits = waits; stands = (u.taken, s.0, u.points, s.1, s.2); answered = subst (λ n. answers a x y (Replied reply n waits)) new.1 answered };
        },
        new.1,
      )

  -- and the pass knows it
  pub has_joined : (a : Asked) (reply : Reply) (number : ℕ) (waits : Bool) (v u w : View E) (x : V) (e : E) → GoesOn client v u → IsJoined client entry moment of_volume answers a reply u x e → w.list ≡ u.list ++ e ∷ [] → number ≡ suc (length u.list) → WaitsIf waits a.request reply
      → HasJoined client entry moment of_volume answers a reply number waits v w
  has_joined a reply number waits v u w x e goes j list is wait =
      let more = goes.list.0 in
      let whole : v.list ++ more ≡ u.list = goes.list.1 in
      record {
        before = more;
        mine = e;
        list = list ∙ ap (λ (l : List E). l ++ e ∷ []) (sym whole) ∙ append_assoc v.list more (e ∷ []);
        others = goes.list.2;
        is = j.is;
        number_is = is ∙ ap (λ (l : List E). suc (length l)) (sym whole);
        answered = subst {A = Base × List E} (λ z. IsAnsweredAt of_volume answers a reply z.0 z.1) (λ i. (goes.base i, sym whole i)) j.answered;
        waits_is = wait;
      }
