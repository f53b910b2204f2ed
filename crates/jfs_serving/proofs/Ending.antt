-- What a call tells in the end.
use Rattle.std.proofs.Common.{◌≡◌, ◌+◌, ◌⊎◌, inl, inr, ℕ, suc, List, [], ◌∷◌, ◌++◌, length, Option, append_assoc, sym, ap, subst, ◌∙◌, arith}
use Rattle.std.proofs.lemmas.List.{length-append}
use Rattle.jfs_bits.specs.declared.descriptor.Moment.{Moment}
use Rattle.jfs_disk.specs.declared.disk.Fault.{Fault}
use Rattle.jfs_plain.specs.declared.call.Ack.{Ack}
use Rattle.jfs_plain.specs.declared.call.Entry.{Entry}
use Rattle.jfs_plain.specs.declared.reply.Reply.{Reply}
use Rattle.jfs_turns.specs.Lists.{Base, Lacks, HasOwn}
use Rattle.jfs_turns.specs.Standing.{Standing}
use Rattle.jfs_turns.specs.declared.view.View.{View}
use Rattle.jfs_groups.specs.Commit.{GoesOn}
use Rattle.jfs_serving.specs.Calls.{Asked, IsEntryOf}
use Rattle.jfs_serving.specs.Called.{Keeps, IsAcked, IsAnsweredAt, HasCalled, HasNoEntry}
use Rattle.jfs_serving.specs.Gave.{GaveIs, LeftIs, IsKnown, Ends}
use Rattle.jfs_serving.specs.declared.serves.Given.{Given}
use Rattle.jfs_serving.specs.declared.serves.Given.TheVariants.{Replied, NeedsLog, NoMemory}

module _ {E : Type 0} (client : E → ℕ) where
  lacks_both : (k : ℕ) (xs ys : List E) → Lacks client k xs → Lacks client k ys → Lacks client k (xs ++ ys)
  lacks_both k [] ys a b = b
  lacks_both k (x ∷ xs) ys a b = (a.0, lacks_both k xs ys a.1 b)

  pub own_on : (j k : ℕ) (xs ys zs : List E) → k ≡ j → HasOwn client j xs ys → HasOwn client k ys zs → HasOwn client j xs zs
  own_on j k xs ys zs same a b =
      (a.0 ++ b.0, sym (append_assoc xs a.0 b.0) ∙ ap (λ (l : List E). l ++ b.0) a.1 ∙ b.1, lacks_both j a.0 b.0 a.2 (subst (λ n. Lacks client n b.0) same b.2))

module _ {V L E : Type 0} (client : E → ℕ) (entry : E → Entry) (moment : E → Moment) (of_volume : Standing V E) (of_log : Standing L E) (answers : Asked → V → V → Given → Type 0) (halted : L → Option Fault) where
  -- a call that is asked again: what its pass saw at first
  pub gave_later : (a : Asked) (given : Given) (v u w : View E) → HasOwn client v.number v.list u.list → Keeps v u → GaveIs client entry moment of_volume answers a u w given → GaveIs client entry moment of_volume answers a v w given
  gave_later a (Replied reply number waits) v u w own keeps g =
      let whole : u.list ++ g.before ≡ v.list ++ (own.0 ++ g.before) = ap (λ (l : List E). l ++ g.before) (sym own.1) ∙ append_assoc v.list own.0 g.before in
      record {
        before = own.0 ++ g.before;
        mine = g.mine;
        list = g.list ∙ ap (λ (l : List E). l ++ (g.before ++ g.mine ∷ [])) (sym own.1) ∙ append_assoc v.list own.0 (g.before ++ g.mine ∷ []) ∙ ap (λ (l : List E). v.list ++ l) (sym (append_assoc own.0 g.before (g.mine ∷ [])));
        others = lacks_both client v.number own.0 g.before own.2 (subst (λ n. Lacks client n g.before) keeps.number g.others);
        is = g.is;
        number_is = g.number_is ∙ ap (λ (l : List E). suc (length l)) whole;
        answered = subst {A = Base × List E} (λ z. IsAnsweredAt of_volume answers a reply z.0 z.1) (λ i. (keeps.base i, whole i)) g.answered;
        waits_is = g.waits_is;
      }
  gave_later a NeedsLog v u w own keeps g = own_on client v.number u.number v.list u.list w.list keeps.number own g
  gave_later a NoMemory v u w own keeps g = own_on client v.number u.number v.list u.list w.list keeps.number own g

  -- the pass knows the entry that it was given
  pub known_of : (a : Asked) (given : Given) (v w : View E) → GaveIs client entry moment of_volume answers a v w given → IsKnown w given
  known_of a (Replied reply number waits) v w g =
      omega (arith, g.number_is, ap (λ (l : List E). length l) g.list, length-append v.list g.before, length-append v.list (g.before ++ g.mine ∷ []), length-append g.before (g.mine ∷ []))
  known_of a NeedsLog v w g = tt
  known_of a NoMemory v w g = tt

  abbrev pub Called : Asked → Reply → Ack → View E → View E → ℕ → ℕ → Type 0
  Called a reply ack v w old new = (HasCalled client entry moment of_volume of_log answers halted a reply ack v w × (new + 1 ≡ old)) ⊎ (HasNoEntry client reply ack v w × (new ≡ old))

  -- what was given is told, and entries of others may stand behind it
  pub ended : (a : Asked) (given : Given) (reply : Reply) (ack : Ack) (v u w : View E) (old mid new : ℕ) → GaveIs client entry moment of_volume answers a v u given → Keeps v u → LeftIs given old mid → new ≡ mid → GoesOn client u w → Ends of_log halted given reply ack w → Called a reply ack v w old new
  ended a (Replied given number waits) reply ack v u w old mid new g keeps left same goes e =
      let after = goes.list.0 in
      inl (
        record {
          before = g.before;
          mine = g.mine;
          after = after;
          list = sym goes.list.1 ∙ ap (λ (l : List E). l ++ after) g.list ∙ append_assoc v.list (g.before ++ g.mine ∷ []) after ∙ ap (λ (l : List E). v.list ++ l) (append_assoc g.before (g.mine ∷ []) after);
          others_before = g.others;
          others_after = subst (λ n. Lacks client n after) keeps.number goes.list.2;
          is = subst (λ r. IsEntryOf client entry moment a r g.mine) (sym e.0) g.is;
          acked = subst {A = Reply × ℕ} (λ z. IsAcked of_log halted a z.0 z.1 w ack) (λ i. (sym e.0 i, g.number_is i)) (e.1 a g.waits_is);
          answered = subst (λ r. IsAnsweredAt of_volume answers a r v.base (v.list ++ g.before)) (sym e.0) g.answered;
        },
        omega (arith, left, same),
      )
  ended a NeedsLog reply ack v u w old mid new g keeps left same goes e = inr (record { reply_is = e.0; ack_is = e.1; list = own_on client v.number u.number v.list u.list w.list keeps.number g goes.list }, same ∙ left)
  ended a NoMemory reply ack v u w old mid new g keeps left same goes e = inr (record { reply_is = e.0; ack_is = e.1; list = own_on client v.number u.number v.list u.list w.list keeps.number g goes.list }, same ∙ left)
