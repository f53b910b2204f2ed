-- Changes of one object that keep the kinds of its blocks.
use Rattle.std.proofs.Common.{◌≡◌, refl, sym, ap, ◌∙◌, ℕ, true, Option, Some, arith}
use Rattle.std.proofs.lemmas.Bool.{cond-false}
use Rattle.jfs_recovery.specs.objects.specs.Readers.{Readers}
use Rattle.jfs_recovery.specs.objects.specs.Volume.{Volume}
use Rattle.jfs_recovery.specs.objects.specs.Objects.{Object, objects}
use Rattle.jfs_recovery.specs.objects.specs.Owners.{holds, data_held}
use Rattle.jfs_recovery.specs.objects.specs.Laws.{ChangesOne}
use Rattle.jfs_recovery.specs.objects.proofs.Sums.{put_here}
use Rattle.jfs_recovery.specs.kinds.specs.Owner.{is_regular_file, has_page, has_data, has_still}
use Rattle.jfs_recovery.specs.kinds.proofs.Parts.{parts}
use Rattle.jfs_logged.specs.Kinds.{HasTrees, HasNoData, KindsLaw}

module _ (r : Readers) (o x : Object) (same : HasTrees o x) where
  pages_same : (b : ℕ) → has_page r (Some x) b ≡ has_page r (Some o) b
  unfolding has_page
  pages_same b = rw (same.names, same.extents) refl

  data_same : (b : ℕ) → has_data r (Some x) b ≡ has_data r (Some o) b
  unfolding has_data
  data_same b = rw (same.regular, same.extents) refl

module _ (r : Readers) (v w : Volume) (n : ℕ) (o x : Object) (was : objects r v n ≡ Some o) (c : ChangesOne r v w n (Some x)) (none : HasNoData r o x) where
  no_data_before : (b : ℕ) → has_data r (Some o) b ≡ 0
  unfolding has_data
  no_data_before b = cond-false (is_regular_file o) (data_held r o b) 0 none.before

  no_data_after : (b : ℕ) → has_data r (Some x) b ≡ 0
  unfolding has_data
  no_data_after b = cond-false (is_regular_file x) (data_held r x b) 0 none.after

  still_same : (b : ℕ) → has_still r (Some x) b ≡ has_still r (Some o) b
  unfolding has_still
  still_same b =
      let a = cond-false (is_regular_file x) 0 (data_held r x b) none.after in
      let d = cond-false (is_regular_file o) 0 (data_held r o b) none.before in
      let t = none.targets b in
      let k = none.attributes b in
      omega (arith, a, d, t, k)

  held_same : (b : ℕ) → v.used b ≡ true → w.used b ≡ true → holds r (Some x) b ≡ holds r (Some o) b
  held_same b used now =
      ap (λ (y : Option Object). holds r y b) (sym (c.objects_are n ∙ put_here n (Some x) (objects r v))) ∙ c.owners_stay b n used now ∙ ap (λ (y : Option Object). holds r y b) was

  pages_stay : (b : ℕ) → v.used b ≡ true → w.used b ≡ true → has_page r (Some x) b ≡ has_page r (Some o) b
  pages_stay b used now =
      let h = held_same b used now in
      let p = parts r (Some x) b in
      let q = parts r (Some o) b in
      let d = no_data_before b in
      let e = no_data_after b in
      let s = still_same b in
      omega (arith, h, p, q, d, e, s)

pub kinds_law : KindsLaw
kinds_law = record {
  trees = λ r v w o x same. record { pages = λ b used now. pages_same r o x same b; file_data = λ b used now. data_same r o x same b };
  no_data = λ r v w n o x was c none. record {
    pages = λ b used now. pages_stay r v w n o x was c none b used now;
    file_data = λ b used now. no_data_after r v w n o x was c none b ∙ sym (no_data_before r v w n o x was c none b);
  };
}
