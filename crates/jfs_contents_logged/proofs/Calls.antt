-- Truncate logs what matters.
use Rattle.std.proofs.Common.{◌≡◌, if◌then◌else◌, nat_lt, ℕ, Bool, true, false, Option, Some, None, Result, Ok, Err, refl, sym, ap, ◌∙◌}
use Rattle.std.specs.Prelude.{max}
use Rattle.jfs_inode.specs.declared.fields.Dinode.{Dinode}
use Rattle.jfs_truncate.specs.Call.{why_kept, unless, cut_from}
use Rattle.jfs_truncate.specs.data_steps.specs.meaning.specs.Contents.{is_regular}
use Rattle.jfs_truncate.specs.data_steps.specs.objects.specs.Objects.{has_names}
use Rattle.jfs_truncate.specs.data_steps.specs.way.specs.Way.{path_of}
use Rattle.jfs_truncate.specs.data_steps.specs.way.specs.declared.object.Held.{Held}
use Rattle.jfs_truncate.specs.data_steps.specs.loss.specs.plain.specs.Tree.{and_then}
use Rattle.jfs_truncate.specs.data_steps.specs.loss.specs.plain.specs.declared.refusal.Refusal.{Refusal}
use Rattle.jfs_truncate.specs.data_steps.specs.loss.specs.plain.specs.declared.refusal.Refusal.TheVariants.{IsDir, NotFile, FileTooBig}
use Rattle.jfs_names_logged.specs.calls_logged.specs.Found.{IsFound}
use Rattle.jfs_names_logged.specs.calls_logged.proofs.Found.{path_found}
use Rattle.jfs_names_logged.specs.unlink.proofs.Ended.{used_within}
use Rattle.jfs_contents_logged.specs.Calls.{TruncateLaw}
use Rattle.jfs_contents_logged.proofs.Cut.{truncated}

then_ok : {A B : Type 0} (x : Result A Refusal) (f : A → Result B Refusal) (b : B) → and_then x f ≡ Ok b → (a : A) × (x ≡ Ok a) × (f a ≡ Ok b)
then_ok (Ok a) f b h = (a, refl, h)
then_ok (Err why) f b h = absurd (cc (h))

-- only a regular file gets a size
allowed : (d : Dinode) (size limit : ℕ) → why_kept d size limit ≡ None → is_regular d ≡ true
allowed d size limit h = by (has_names d) (is_regular d) h
  where
    by : (x y : Bool) → (if x then Some IsDir else (if y then (if nat_lt limit (max d.size size) then Some FileTooBig else None) else Some NotFile)) ≡ None → y ≡ true
    by true y h = absurd (cc (h))
    by false true h = refl
    by false false h = absurd (cc (h))

none_kept : (x : Option Refusal) (at a : Held) → unless x at ≡ Ok a → x ≡ None
none_kept None at a h = refl
none_kept (Some why) at a h = absurd (cc (h))

pub truncate_law : TruncateLaw
truncate_law blocks pages area map inodes path size limit now out ready many full t =
    truncated blocks pages area map inodes ready (used_within blocks pages area map inodes ready.consistent many) t.at found regular size now out.tx t.resizes out.blocks t.tail full
  where
    found : IsFound blocks pages area map inodes t.at
    found = path_found blocks pages area map inodes ready.consistent path t.at t.walked

    regular : is_regular t.at.inode ≡ true
    regular =
        let e = then_ok (path_of blocks pages inodes path) (λ at. and_then (unless (why_kept at.inode size limit) at) (cut_from blocks pages size)) t.at t.met in
        let same : e.0 ≡ t.at = same_at (sym e.1 ∙ t.walked) in
        let u = then_ok (unless (why_kept e.0.inode size limit) e.0) (cut_from blocks pages size) t.at e.2 in
        ap (λ (o : Held). is_regular o.inode) (sym same) ∙ allowed e.0.inode size limit (none_kept (why_kept e.0.inode size limit) e.0 u.0 u.1)
      where
        same_at : {x y : Held} → ◌≡◌ {A = Result Held Refusal} (Ok x) (Ok y) → x ≡ y
        same_at h = cc (h)
