-- Where inodes stand, by the places of their extents.
use Rattle.std.proofs.Common.{◌≡◌, ◌<◌, ◌≤◌, refl, sym, ap, ◌∙◌, ℕ, ◌+◌, ◌*◌, ◌/◌, ◌%◌, Bool, true, false, if◌then◌else◌, List, length, get_or, Option, Some, None, arith}
use Rattle.std.proofs.lemmas.List.{get_or_past}
use Rattle.jfs_inode.specs.declared.fields.Dinode.{Dinode}
use Rattle.jfs_object_check.specs.objects.specs.Volume.{home, page_in, slot_of}
use Rattle.jfs_object_check.specs.objects.specs.Objects.{is_live}
use Rattle.jfs_each.specs.Each.{Found, live_in, found_at, AllFit}

module _ (page : ℕ → List ℕ) (places : List (Option ℕ)) where
  -- past the last number nothing is found
  pub none_past : (n : ℕ) → 32 * length places ≤ n → found_at page places n ≡ None
  none_past n l = ap (λ (o : Option ℕ). live_in page n (page_in o n)) (get_or_past places (n / 32) None (omega (arith, l)))

  -- what is found stands on its inode's page
  pub stands : (n : ℕ) (f : Found) → found_at page places n ≡ Some f → home places n ≡ Some f.page
  stands n f e = by (home places n) refl
    where
      none_is : None ≡ Some f → ⊥
      none_is h = cc h

      some_is : (g : Found) → Some g ≡ Some f → g ≡ f
      some_is g h = cc h

      live : (b : Bool) (p : ℕ) (d : Dinode) → (if b then Some (record { page = p; inode = d }) else None) ≡ Some f → p ≡ f.page
      live true p d h = ap (λ (g : Found). g.page) (some_is (record { page = p; inode = d }) h)
      live false p d h = absurd (none_is h)

      by : (h : Option ℕ) → home places n ≡ h → home places n ≡ Some f.page
      by None is = absurd (none_is (sym (ap (live_in page n) is) ∙ e))
      by (Some p) is = is ∙ ap Some (live (is_live n (slot_of (page p) (n % 8))) p (slot_of (page p) (n % 8)) (sym (ap (live_in page n) is) ∙ e))

  -- and that page is one of so many blocks
  pub stands_below : (blocks n : ℕ) (f : Found) → AllFit blocks places → found_at page places n ≡ Some f → f.page < blocks
  stands_below blocks n f fit e = by (get_or places (n / 32) None) refl
    where
      none_is : (p : ℕ) → None ≡ Some p → ⊥
      none_is p h = cc h

      some_is : (p q : ℕ) → Some p ≡ Some q → p ≡ q
      some_is p q h = cc h

      by : (o : Option ℕ) → get_or places (n / 32) None ≡ o → f.page < blocks
      by None is = absurd (none_is f.page (sym (ap (λ (o : Option ℕ). page_in o n) is) ∙ stands n f e))
      by (Some first) is =
          let low = fit (n / 32) first is in
          let at = some_is (first + n % 32 / 8) f.page (sym (ap (λ (o : Option ℕ). page_in o n) is) ∙ stands n f e) in
          omega (arith, low, at)
