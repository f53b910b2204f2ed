-- Why a directory keeps a name, from the error of the call on its tree.
use Rattle.std.proofs.Common.{◌≡◌, refl, sym, ap, ◌∙◌, inl, inr, ℕ, true, List, Option, Some, None, Ok, Err}
use Rattle.jfs_bits.specs.declared.rule.Rule.{Rule}
use Rattle.jfs_ranges.specs.declared.view.ViewError.{ViewError}
use Rattle.jfs_ranges.specs.declared.view.ViewError.TheVariants.{Read, Memory}
use Rattle.jfs_lead_steps.specs.dtree.specs.Spells.{broken_for, found_for, TellsWay}
use Rattle.jfs_lead_steps.specs.dtree.specs.Replacing.{FollowsWay}
use Rattle.jfs_lead_steps.specs.dtree.specs.declared.error.DtError.{DtError}
use Rattle.jfs_lead_steps.specs.dtree.specs.declared.error.DtError.TheVariants as dt
use Rattle.jfs_lead_steps.specs.meaning.specs.Readers.{root_of}
use Rattle.jfs_steps.specs.way.specs.Answer.{is_open, Answers, view_refusal, names_refusal}
use Rattle.jfs_steps.specs.way.specs.declared.object.Held.{Held}
use Rattle.jfs_loss.specs.Causes.{if_named, lost_from}

view_open : (e : ViewError) → is_open (view_refusal e) ≡ true
view_open (Read fault) = refl
view_open Memory = refl

-- by the root's bytes
module _ (blocks : ℕ) (pages : ℕ → List ℕ) (dir : Held) (name root : List ℕ) (is : root ≡ root_of dir.inode) where
  by_root : lost_from blocks pages dir name ≡ if_named dir.page (broken_for blocks pages root name) (found_for blocks pages root name)
  by_root = ap (λ (bytes : List ℕ). if_named dir.page (broken_for blocks pages bytes name) (found_for blocks pages bytes name)) (sym is)

  on_way : (found : Option ℕ) → broken_for blocks pages root name ≡ None → found_for blocks pages root name ≡ found → lost_from blocks pages dir name ≡ if_named dir.page None found
  on_way found whole e = by_root ∙ ap (λ (first : Option (ℕ × Rule)). if_named dir.page first (found_for blocks pages root name)) whole ∙ ap (if_named dir.page None) e

  pub loses : (inode : ℕ) → TellsWay {T = ℕ} (broken_for blocks pages root name) (Ok inode) → FollowsWay (found_for blocks pages root name) (Ok inode) → lost_from blocks pages dir name ≡ Ok inode
  loses inode whole e = on_way (Some inode) whole e

  pub keeps : (e : DtError) → TellsWay {T = ℕ} (broken_for blocks pages root name) (Err e) → FollowsWay (found_for blocks pages root name) (Err e) → Answers (lost_from blocks pages dir name) (Err (names_refusal dir.number dir.page e))
  keeps (dt.View e) way found = inr (view_open e)
  keeps (dt.Bad page rule) way found = inl (by_root ∙ ap (λ (first : Option (ℕ × Rule)). if_named dir.page first (found_for blocks pages root name)) way)
  keeps dt.Exists way found = absurd found
  keeps dt.Missing way found = inl (on_way None way found)
  keeps dt.TooDeep way found = absurd found
