-- An object goes.
use Rattle.std.proofs.Common.{refl, ◌∙◌, false, [], None, arith}
use Rattle.jfs_objects.specs.Laws.{DropLaw}
use Rattle.jfs_objects.proofs.Sums.{put_here, put_other}
use Rattle.jfs_objects.proofs.Owned.{holds_none}
use Rattle.jfs_objects.proofs.Found.{no_object_at}
use Rattle.jfs_objects.proofs.Edited.{OneEdit, now_home, now_slot, changes_one}

pub object_goes : DropLaw
object_goes r v w n left freed sound s = changes_one r v w n left v.page [] freed sound e None
    (no_object_at r w n s.puts.page left (now_home r v w n left v.page [] freed sound e) (now_slot r v w n left v.page [] freed sound e) s.dead)
    (λ b. let x = holds_none r b in let y = s.all b in omega (arith, x, y))
    (s.in_use n ∙ put_here n false v.in_use)
    (λ o h. absurd (cc (h)))
  where
    e : OneEdit r v w n left v.page [] freed
    e = record {
      puts = s.puts;
      keeps = λ b h t. refl;
      fresh = λ b h. absurd (omega (arith, h));
      used = λ b. (let u = s.used b in omega (arith, u));
      extents = s.extents;
      area = s.area;
      in_use = λ k t. s.in_use k ∙ put_other n false v.in_use k t;
    }
