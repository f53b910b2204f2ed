-- Write and fill log what matters.
use Rattle.std.proofs.Common.{◌≡◌, ◌≤◌, ◌<◌, refl, ◌∙◌, subst, ℕ, ◌+◌, List, length, Option, Some, None, Result, Ok, Err, arith}
use Rattle.std.specs.Prelude.{min, max}
use Rattle.std.proofs.lemmas.Bool.{ltb-false}
use Rattle.jfs_bmap.specs.States.{Blocks, unowned_count}
use Rattle.jfs_imap.specs.Inodes.{Inodes}
use Rattle.jfs_inode.specs.declared.fields.Dinode.{Dinode}
use Rattle.jfs_write.specs.Call.{allowed_at, allowed_of, if_space}
use Rattle.jfs_write.specs.Look.{most_bytes, why_kept, unless, FitsBytes}
use Rattle.jfs_write.specs.file_blocks.specs.claim.specs.Look.{space_for}
use Rattle.jfs_write.proofs.Calls.{spelled_ok}
use Rattle.jfs_write.proofs.Done.{Fits, allowed_fits}
use Rattle.jfs_write_pages.specs.data_steps.specs.way.specs.Way.{path_of}
use Rattle.jfs_write_pages.specs.data_steps.specs.way.specs.declared.object.Held.{Held}
use Rattle.jfs_write_pages.specs.loss.specs.plain.specs.Step.{need_of_bytes}
use Rattle.jfs_write_pages.specs.loss.specs.plain.specs.Tree.{and_then}
use Rattle.jfs_write_pages.specs.loss.specs.plain.specs.declared.refusal.Refusal.{Refusal}
use Rattle.jfs_contents_logged.specs.calls_logged.proofs.Found.{path_found}
use Rattle.jfs_writes_logged.specs.Calls.{WriteLaw}
use Rattle.jfs_writes_logged.proofs.Grown.{written_logged}

-- ---- what may be written to

then_ok : {A B : Type 0} (x : Result A Refusal) (f : A → Result B Refusal) (b : B) → and_then x f ≡ Ok b → (a : A) × (x ≡ Ok a) × (f a ≡ Ok b)
then_ok (Ok a) f b h = (a, refl, h)
then_ok (Err why) f b h = absurd (cc (h))

ok_is : {x y : Held} → ◌≡◌ {A = Result Held Refusal} (Ok x) (Ok y) → x ≡ y
ok_is h = cc (h)

-- the path leads to it, and nothing bars the bytes
pub record IsAllowedAt (blocks : ℕ) (pages : ℕ → List ℕ) (inodes : Inodes) (path : List (List ℕ)) (end limit : ℕ) (at : Held) : Type 0 where
  pub walked : path_of blocks pages inodes path ≡ Ok at
  pub fits : Fits at.inode end limit

module _ (blocks : ℕ) (pages : ℕ → List ℕ) (map : Blocks) (inodes : Inodes) (path : List (List ℕ)) (offset count limit : ℕ) (at : Held) where
  of_space : (x : Result (Unit {0}) Refusal) (a : Held) → if_space x a ≡ Ok at → a ≡ at
  of_space (Ok it) a h = ok_is h
  of_space (Err why) a h = absurd (cc (h))

  of_kept : (x : Option Refusal) (a b : Held) → unless x a ≡ Ok b → (x ≡ None) × (a ≡ b)
  of_kept None a b h = (refl, ok_is h)
  of_kept (Some why) a b h = absurd (cc (h))

  is_allowed : allowed_of blocks pages map inodes path offset count limit ≡ Ok at → IsAllowedAt blocks pages inodes path (offset + count) limit at
  is_allowed h =
      let e = then_ok (path_of blocks pages inodes path) (allowed_at map offset count limit) at h in
      let u = then_ok (unless (why_kept e.0.inode (offset + count) limit) e.0) (if_space (space_for (unowned_count map) (need_of_bytes offset count))) at e.2 in
      let k = of_kept (why_kept e.0.inode (offset + count) limit) e.0 u.0 u.1 in
      let same : e.0 ≡ at = k.1 ∙ of_space (space_for (unowned_count map) (need_of_bytes offset count)) u.0 u.2 in
      subst (IsAllowedAt blocks pages inodes path (offset + count) limit) same (record { walked = e.1; fits = allowed_fits e.0.inode (offset + count) limit k.0 })

-- ---- the call

fits_bytes : (offset count limit : ℕ) (d : Dinode) → 0 < count → count ≤ 65536 → Fits d (offset + count) limit → FitsBytes offset count
fits_bytes offset count limit d some few fits = record { some = some; few = few; low = (let l = ltb-false (min limit most_bytes) (max d.size (offset + count)) fits.small in omega (arith, l)) }

pub write_law : WriteLaw
write_law blocks pages area map inodes path offset bytes limit now after out ready many some few full x =
    let a = is_allowed blocks pages map inodes path offset (length bytes) limit x.at x.allowed in
    written_logged blocks pages area map inodes ready many x.at (path_found blocks pages area map inodes ready.consistent path x.at a.walked) a.fits.regular x.writes.es (spelled_ok blocks pages x.at x.writes.es x.writes.spelled)
    x.writes.made.makes.edits.rest offset bytes (fits_bytes offset (length bytes) limit x.at.inode some few a.fits) x.writes.made.runs x.writes.made.free x.writes.made.may x.writes.made.left now out x.writes.made.makes full
