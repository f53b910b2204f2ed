-- The volume between the step that sets the directory and the one that makes the object: a new inode extent is there, if one is made.
use Rattle.std.proofs.Common.{◌≡◌, ◌≤◌, ◌<◌, refl, sym, ap, ◌∙◌, ℕ, ◌+◌, ◌*◌, ◌/◌, ◌%◌, Bool, true, false, nat_lt, if◌then◌else◌, List, length, get_or, set, Option, Some, None, arith}
use Rattle.std.proofs.lemmas.List.{get_or-set_same, length-set}
use Rattle.jfs_ranges.specs.declared.edit.Edit.{Edit}
use Rattle.jfs_ranges.specs.Apply.{apply_tx}
use Rattle.jfs_ranges.specs.Laid.{put_tx, applied_length}
use Rattle.jfs_tree.specs.Edit.{count_in}
use Rattle.jfs_plain.specs.Tree.{Tree}
use Rattle.jfs_link.specs.objects.specs.Volume.{Volume, home, page_in}
use Rattle.jfs_link.specs.objects.specs.Objects.{objects}
use Rattle.jfs_link.specs.objects.specs.Owners.{bit}
use Rattle.jfs_link.specs.objects.specs.Owners as owners
use Rattle.jfs_link.specs.objects.specs.Changes.{AddsExtent}
use Rattle.jfs_link.specs.objects.proofs.Extent.{extent_law}
use Rattle.jfs_link.specs.meaning.specs.Readers.{readers}
use Rattle.jfs_link.specs.lead_steps.specs.Reached.{HasTree}
use Rattle.jfs_link.specs.steps.specs.After.{used_after, extents_after}
use Rattle.jfs_link.specs.steps.specs.Call.{LeavesAreas}
use Rattle.jfs_link.specs.steps.specs.Gains.{after_set}
use Rattle.jfs_link.specs.steps.proofs.Areas.{then_leaves, extent_leaves}
use Rattle.jfs_create.specs.Extent.{TellsExtent}
use Rattle.jfs_create.specs.Makes.{IsBetween, IsNewPlace, CanStand}
use Rattle.jfs_create.specs.declared.extent.NewExtent.{NewExtent}
use Rattle.jfs_create.proofs.Extents.{adds, extents_are, used_are}
use Rattle.jfs_create.proofs.Makes.{extent_has}

pub record HasBetween (blocks : ℕ) (v : Volume) (n number page : ℕ) (more : List Edit) (u : Tree) : Type 0 where
  pub x : Volume
  pub has : HasTree (readers blocks) x u
  pub page_is : x.page ≡ put_tx blocks more v.page
  pub used : x.used ≡ used_after more v.used
  pub area : x.area ≡ v.area
  pub areas : LeavesAreas v x
  pub extents : x.extents ≡ extents_after more v.extents
  pub in_use : x.in_use ≡ (after_set blocks more n v).in_use
  pub none : objects (readers blocks) x number ≡ None
  pub at : home x.extents number ≡ Some page
  pub room : length x.extents ≡ length v.extents

put_length : (blocks : ℕ) (tx : List Edit) (pages : ℕ → List ℕ) (b : ℕ) → length (put_tx blocks tx pages b) ≡ length (pages b)
put_length blocks tx pages b = by (nat_lt b blocks)
  where
    by : (x : Bool) → length (if x then apply_tx b tx (pages b) else pages b) ≡ length (pages b)
    by true = applied_length b tx (pages b)
    by false = refl

not_used : (x : Bool) → bit x ≡ 0 → x ≡ false
not_used true h = absurd (omega (arith, h))
not_used false h = refl

module _ (blocks : ℕ) (v : Volume) (n number page : ℕ) (mid more : List Edit) (u : Tree) (has : HasTree (readers blocks) (after_set blocks mid n v) u) (free taken : List ℕ) (stays : extents_after mid v.extents ≡ v.extents)
    (few : (b : ℕ) → count_in b taken ≤ count_in b free) (counted : (b : ℕ) → bit ((after_set blocks mid n v).used b) ≡ bit (v.used b) + count_in b taken) (whole : (b : ℕ) → b < blocks → length (v.page b) ≡ 4096)
    (none : objects (readers blocks) (after_set blocks mid n v) number ≡ None) (leaves : LeavesAreas v (after_set blocks mid n v)) where
  abbrev v1 : Volume
  v1 = after_set blocks mid n v

  in_old : more ≡ mid → home v.extents number ≡ Some page → HasBetween blocks v n number page more u
  in_old same at = record {
    x = v1;
    has = has;
    page_is = ap (λ (tx : List Edit). put_tx blocks tx v.page) (sym same);
    used = ap (λ (tx : List Edit). used_after tx v.used) (sym same);
    area = refl;
    areas = leaves;
    extents = sym stays ∙ ap (λ (tx : List Edit). extents_after tx v.extents) (sym same);
    in_use = refl;
    none = none;
    at = at;
    room = refl;
  }

  module _ (extent : NewExtent) (told : TellsExtent extent mid more) (new : IsNewPlace blocks v free number page extent) where
    abbrev x : Volume
    x = record v1 { page = put_tx blocks more v.page; used = used_after more v.used; extents = set v.extents new.place (Some extent.run.addr) }

    fresh : (b : ℕ) → 0 < owners.extent_has (Some extent.run.addr) b → v1.used b ≡ false
    fresh b h = not_used (v1.used b) (let c = counted b in let z = new.apart b h in let f = few b in let u = ap bit (new.fresh b h) in omega (arith, c, z, f, u))

    added : AddsExtent v1 x new.place extent.run.addr
    added = adds extent told.one told.two told.three told.four told.first told.second told.third told.fourth blocks v.page mid more told.told v1 x refl refl new.place new.numbers new.inside
        (λ b l. put_length blocks mid v.page b ∙ whole b l) new.behind new.few new.none fresh refl
        (used_are extent told.one told.two told.three told.four told.first told.second told.third told.fourth mid more told.told v.used) refl refl

    number_is : number ≡ 32 * new.place
    number_is = new.first ∙ new.numbers

    at_home : home x.extents number ≡ Some page
    at_home = ap (λ (k : ℕ). home x.extents k) number_is ∙ ap (λ (k : ℕ). page_in (get_or x.extents k None) (32 * new.place)) (placed new.place)
        ∙ ap (λ (o : Option ℕ). page_in o (32 * new.place)) (get_or-set_same v.extents new.place (Some extent.run.addr) None new.few) ∙ ap (λ (k : ℕ). Some k) (first_of extent.run.addr new.place ∙ sym new.page_is)
      where
        placed : (k : ℕ) → 32 * k / 32 ≡ k
        placed k = omega arith

        first_of : (a k : ℕ) → a + 32 * k % 32 / 8 ≡ a
        first_of a k = omega arith

    in_new : HasBetween blocks v n number page more u
    in_new = record {
      x = x;
      has = extent_has blocks v1 x u has new.place extent.run.addr added;
      page_is = refl;
      used = refl;
      area = refl;
      areas = then_leaves v v1 x refl leaves (extent_leaves (readers blocks) v1 has.sound.agrees x new.place extent.run.addr added);
      extents = sym (extents_are extent told.one told.two told.three told.four told.first told.second told.third told.fourth mid more told.told new.place new.numbers v.extents
          ∙ ap (λ (es : List (Option ℕ)). set es new.place (Some extent.run.addr)) stays);
      in_use = refl;
      none = (extent_law (readers blocks) v1 x new.place extent.run.addr has.sound added).0.objects_stay number ∙ none;
      at = at_home;
      room = length-set v.extents new.place (Some extent.run.addr);
    }

  pub between : (new : Option NewExtent) → IsBetween new mid more → CanStand blocks v free number page new → HasBetween blocks v n number page more u
  between None same at = in_old same at
  between (Some extent) told new = in_new extent told new
