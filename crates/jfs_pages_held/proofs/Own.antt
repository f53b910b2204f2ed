-- A transaction that logs its own alone dirties its own alone.
use Rattle.std.proofs.Common.{◌≡◌, ◌⊎◌, ℕ, false, inl, inr}
use Rattle.jfs_joined_held.specs.held.specs.survival.specs.logged.proofs.Own.{own_law as logged_law}
use Rattle.jfs_joined_held.specs.held.specs.survival.specs.logged.specs.Own.{IsKeptOrData}
use Rattle.jfs_joined_held.specs.volume.specs.data_steps.specs.objects.specs.Readers.{Readers}
use Rattle.jfs_joined_held.specs.volume.specs.data_steps.specs.objects.specs.Volume.{Volume}
use Rattle.jfs_pages_held.specs.Called.{OwnLaw}
use Rattle.jfs_pages_held.specs.Pages.{MayBeDirty}

there : (r : Readers) (v : Volume) (q : ℕ) → IsKeptOrData r v q ⊎ (v.used q ≡ false) → MayBeDirty r v q
there r v q (inl (inl logged)) = inl logged
there r v q (inl (inr own)) = inr (inl own)
there r v q (inr free) = inr (inr free)

back : (r : Readers) (v : Volume) (q : ℕ) → MayBeDirty r v q → IsKeptOrData r v q ⊎ (v.used q ≡ false)
back r v q (inl logged) = inl (inl logged)
back r v q (inr (inl own)) = inl (inr own)
back r v q (inr (inr free)) = inr free

pub own_law : OwnLaw
own_law r v w tx logs = record { told = λ q lines. there r w q (logged_law.told r v w tx logs q lines); stays = λ q was. there r w q (logged_law.stays r v w tx logs q (back r v q was)) }
