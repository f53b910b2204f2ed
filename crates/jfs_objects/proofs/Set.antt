-- An object is set.
use Rattle.std.proofs.Common.{◌≡◌, ◌<◌, ap, ◌∙◌, subst, ℕ, true, Some, arith}
use Rattle.jfs_objects.specs.Objects.{Object, IsWhole, objects, spelled}
use Rattle.jfs_objects.specs.Owners.{holds}
use Rattle.jfs_objects.specs.Contents.{contents_of}
use Rattle.jfs_objects.specs.Laws.{SetLaw}
use Rattle.jfs_objects.proofs.Sums.{put_here, put_other}
use Rattle.jfs_objects.proofs.Owned.{whole_holds}
use Rattle.jfs_objects.proofs.Framed.{same_spelled}
use Rattle.jfs_objects.proofs.Blocks.{same_contents}
use Rattle.jfs_objects.proofs.Found.{object_at}
use Rattle.jfs_objects.proofs.Edited.{OneEdit, not_home, now_home, now_slot, changes_one}

pub object_is_set : SetLaw
object_is_set r v w n after mid taken freed sound s = (
  changes_one r v w n after mid taken freed sound e (Some (spelled r mid after)) is s.blocks (s.in_use n ∙ put_here n true v.in_use) (λ o h. subst (IsWhole r) (some_is h) s.whole),
  λ k. ap (λ o. contents_of r w.page o k) is ∙ same_contents r mid w.page (Some (spelled r mid after)) k (λ b h. later b h),
)
  where
    some_is : {x y : Object} → Some x ≡ Some y → x ≡ y
    some_is h = cc (h)

    e : OneEdit r v w n after mid taken freed
    e = record {
      puts = s.puts;
      keeps = s.keeps;
      fresh = s.takes.fresh;
      used = s.takes.used;
      extents = s.extents;
      area = s.area;
      in_use = λ k t. s.in_use k ∙ put_other n true v.in_use k t;
    }

    -- the object's blocks hold what they held before its inode was put
    later : (b : ℕ) → 0 < holds r (Some (spelled r mid after)) b → w.page b ≡ mid b
    later b h = s.puts.others b (not_home r v w n after mid taken freed sound e b (let t = s.blocks b in omega (arith, t, h)))

    same : spelled r w.page after ≡ spelled r mid after
    same = same_spelled r mid w.page after (λ b f. later b (let c = whole_holds r (spelled r mid after) s.whole b in omega (arith, c, f)))

    is : objects r w n ≡ Some (spelled r mid after)
    is = object_at r w n s.puts.page after (now_home r v w n after mid taken freed sound e) (now_slot r v w n after mid taken freed sound e) s.live ∙ ap Some same
