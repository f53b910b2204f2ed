-- What is kept beside the set after an inode was taken or given back, and after an extent was added.
use Rattle.std.proofs.Common.{◌≡◌, ◌≢◌, ◌<◌, ◌≤◌, ◌+◌, ◌*◌, ◌/◌, ℕ, Bool, true, false, not, ◌&&◌, ◌||◌, List, length, get_or, set, map, take, drop, ◌++◌, inl, inr, sym, ap, ◌∙◌, arith}
use Rattle.std.specs.Prelude.{nat_lt, nat_le}
use Rattle.std.proofs.lemmas.Bool.{cases_eq, cases_lt, lt-ltb, le-leb, cond-true}
use Rattle.std.proofs.lemmas.List.{get_or-set_same, get_or-set_other, length-set}
use Rattle.jfs_bits.specs.declared.descriptor.Pxd.{Pxd}
use Rattle.jfs_bits.specs.Bits.{is_taken, is_in_run, any_below}
use Rattle.jfs_bits.specs.Descriptor.{FitsPxd}
use Rattle.jfs_bits.proofs.Buds.{any_below-same, any_below-from}
use Rattle.jfs_bits.proofs.Counts.{in_run, before_run, behind_run}
use Rattle.jfs_iag.specs.Iag.{no_run}
use Rattle.jfs_iag.specs.Canonical.{is_there, has_free}
use Rattle.jfs_iag.proofs.Maps.{and_true}
use Rattle.std.proofs.lemmas.List.{take_at}
use Rattle.std.proofs.lemmas.List.FromFn.{length-map-range_with_len, get_or-map-range_with_len}
use Rattle.std.specs.List.{range_with_len}
use Rattle.jfs_imap.specs.Inodes.{Inodes, AreKept, inodes_of, bits_of, with_taken, with_put_back, with_extent, is_used}
use Rattle.jfs_imap.proofs.Marks.{bits-set, bits-are, bit-at, length-bits_of}

-- another extent's inodes stay
free-stays : (old new : List ℕ) (extents : List Pxd) (e k : ℕ) → k ≢ e → ((b : ℕ) → b / 32 ≢ e → is_taken new b ≡ is_taken old b) → has_free (is_taken new) (λ e. get_or extents e no_run) k ≡ has_free (is_taken old) (λ e. get_or extents e no_run) k
free-stays old new extents e k other stays =
    ap (λ (z : Bool). is_there (get_or extents k no_run) && z) (any_below-same 32 (λ i. not (is_taken new (32 * k + i))) (λ i. not (is_taken old (32 * k + i))) (λ i h. ap not (stays (32 * k + i) (apart e k i other h))))
  where
    apart : (e k i : ℕ) → k ≢ e → i < 32 → (32 * k + i) / 32 ≢ e
    apart e k i other h same = other (omega arith)

pub kept-changed : (iags numag : ℕ) (old new : List ℕ) (extents : List Pxd) (having lacking : List Bool) (e : ℕ) (v : Bool) → AreKept iags numag old extents having lacking → length new ≡ length old → e < length having → v ≡ has_free (is_taken new) (λ e. get_or extents e no_run) e → ((b : ℕ) → b / 32 ≢ e → is_taken new b ≡ is_taken old b) → AreKept iags numag new extents (set having e v) lacking
kept-changed iags numag old new extents having lacking e v k size within is stays = record {
  least = k.least;
  most = k.most;
  some_groups = k.some_groups;
  most_groups = k.most_groups;
  set_size = size ∙ k.set_size;
  extents_size = k.extents_size;
  free_room = simp length-set k.free_room;
  places_room = k.places_room;
  fits = k.fits;
  free = λ j. elim (cases_eq j e) [
    | inl same ↦ rw same (get_or-set_same having e v false within ∙ is)
    | inr other ↦ get_or-set_other having e j v false other ∙ k.free j ∙ sym (free-stays old new extents e j other stays)
  ];
  places = k.places;
}

-- the bits of one inode
pub one-taken : (n b : ℕ) (taken : Bool) → b ≢ n → (is_in_run n 1 b || taken) ≡ taken
one-taken n b taken other = ap (λ (z : Bool). z || taken) (beside n b other)
  where
    beside : (n b : ℕ) → b ≢ n → is_in_run n 1 b ≡ false
    beside n b other = elim (cases_lt b n) [ inl h ↦ before_run n 1 b h | inr h ↦ behind_run n 1 b (omega arith) ]

pub one-cleared : (n b : ℕ) (taken : Bool) → b ≢ n → (not (is_in_run n 1 b) && taken) ≡ taken
one-cleared n b taken other = ap (λ (z : Bool). not z && taken) (beside n b other)
  where
    beside : (n b : ℕ) → b ≢ n → is_in_run n 1 b ≡ false
    beside n b other = elim (cases_lt b n) [ inl h ↦ before_run n 1 b h | inr h ↦ behind_run n 1 b (omega arith) ]

pub here-taken : (n : ℕ) (taken : Bool) → (is_in_run n 1 n || taken) ≡ true
here-taken n taken = ap (λ (z : Bool). z || taken) (in_run n 1 n (omega arith) (omega arith))

pub here-cleared : (n : ℕ) (taken : Bool) → (not (is_in_run n 1 n) && taken) ≡ false
here-cleared n taken = ap (λ (z : Bool). not z && taken) (in_run n 1 n (omega arith) (omega arith))

-- a vector's items that were all written
pub put-whole : (len : ℕ) (new items : List ℕ) → length new ≡ len → take len (new ++ drop (length new) items) ≡ new
put-whole len new items size = take_at new (drop (length new) items) len size

abbrev seen : List Bool → List Pxd → ℕ → ℕ → ℕ → Inodes
seen taken extents iags agsize numag = record { taken = taken; extents = extents; iags = iags; agsize = agsize; numag = numag }

pub taken-view : (old new : List ℕ) (extents : List Pxd) (iags agsize numag n : ℕ) → n < 4096 * iags → is_taken new n ≡ true → ((b : ℕ) → b ≢ n → is_taken new b ≡ is_taken old b) → inodes_of new extents iags agsize numag ≡ with_taken n (inodes_of old extents iags agsize numag)
taken-view old new extents iags agsize numag n within here other = ap (λ (t : List Bool). seen t extents iags agsize numag) (sym (bits-set (4096 * iags) n true old new within here other))

pub cleared-view : (old new : List ℕ) (extents : List Pxd) (iags agsize numag n : ℕ) → n < 4096 * iags → is_taken new n ≡ false → ((b : ℕ) → b ≢ n → is_taken new b ≡ is_taken old b) → inodes_of new extents iags agsize numag ≡ seen (set (bits_of (4096 * iags) old) n false) extents iags agsize numag
cleared-view old new extents iags agsize numag n within here other = ap (λ (t : List Bool). seen t extents iags agsize numag) (sym (bits-set (4096 * iags) n false old new within here other))

-- an extent was put into place `e`
pub kept-extent : (iags numag : ℕ) (old new : List ℕ) (extents : List Pxd) (having lacking : List Bool) (e : ℕ) (at : Pxd) → AreKept iags numag old extents having lacking → e < length extents → FitsPxd at → is_there at ≡ true → length new ≡ length old
    → ((b : ℕ) → is_taken new b ≡ (not (is_in_run (32 * e) 32 b) && is_taken old b)) → AreKept iags numag new (set extents e at) (set having e true) (set lacking e false)
kept-extent iags numag old new extents having lacking e at k within fits there size bits =
    let put : get_or (set extents e at) e no_run ≡ at = get_or-set_same extents e at no_run within in
    let stays = λ (j : ℕ) (other : j ≢ e). get_or-set_other extents e j at no_run other in
    let clear : is_taken new (32 * e) ≡ false = bits (32 * e) ∙ ap (λ (z : Bool). not z && is_taken old (32 * e)) (in_run (32 * e) 32 (32 * e) (omega arith) (omega arith)) in
    let zero : 32 * e + 0 ≡ 32 * e = omega arith in
    let e_size = k.extents_size in
    record {
      least = k.least;
      most = k.most;
      some_groups = k.some_groups;
      most_groups = k.most_groups;
      set_size = size ∙ k.set_size;
      extents_size = simp length-set k.extents_size;
      free_room = simp length-set k.free_room;
      places_room = simp length-set k.places_room;
      fits = λ j h. elim (cases_eq j e) [
        | inl same ↦ rw (same, put) fits
        | inr other ↦ rw (stays j other) (k.fits j h)
      ];
      free = λ j. elim (cases_eq j e) [
        | inl same ↦ rw same (get_or-set_same having e true false (omega (arith, k.free_room)) ∙ sym (and_true (is_there (get_or (set extents e at) e no_run)) (any_below 32 (λ i. not (is_taken new (32 * e + i)))) (ap is_there put ∙ there) ∙ any_below-from 32 (λ i. not (is_taken new (32 * e + i))) 0 (omega arith) (ap not (ap (λ (z : ℕ). is_taken new z) zero ∙ clear))))
        | inr other ↦ get_or-set_other having e j true false other ∙ k.free j ∙ sym (
            ap (λ (z : Pxd). is_there z && any_below 32 (λ i. not (is_taken new (32 * j + i)))) (stays j other)
            ∙ ap (λ (z : Bool). is_there (get_or extents j no_run) && z) (any_below-same 32 (λ i. not (is_taken new (32 * j + i))) (λ i. not (is_taken old (32 * j + i))) (λ i h. ap not (bits (32 * j + i) ∙ ap (λ (z : Bool). not z && is_taken old (32 * j + i)) (outside e j i other h)))))
      ];
      places = λ j. elim (cases_eq j e) [
        | inl same ↦ rw same (get_or-set_same lacking e false false (omega (arith, k.places_room)) ∙ sym (and_true (nat_lt e (128 * iags)) (not (is_there (get_or (set extents e at) e no_run))) (lt-ltb e (128 * iags) (omega arith)) ∙ ap not (ap is_there put ∙ there)))
        | inr other ↦ get_or-set_other lacking e j false false other ∙ k.places j ∙ ap (λ (z : Pxd). nat_lt j (128 * iags) && not (is_there z)) (sym (stays j other))
      ];
    }
  where
    outside : (e j i : ℕ) → j ≢ e → i < 32 → is_in_run (32 * e) 32 (32 * j + i) ≡ false
    outside e j i other h = elim (cases_lt j e) [ inl a ↦ before_run (32 * e) 32 (32 * j + i) (omega arith) | inr a ↦ behind_run (32 * e) 32 (32 * j + i) (omega arith) ]

pub extent-view : (old new : List ℕ) (extents : List Pxd) (iags agsize numag e : ℕ) (at : Pxd) → ((b : ℕ) → is_taken new b ≡ (not (is_in_run (32 * e) 32 b) && is_taken old b)) → inodes_of new (set extents e at) iags agsize numag ≡ with_extent e at (inodes_of old extents iags agsize numag)
extent-view old new extents iags agsize numag e at bits =
    let n = 4096 * iags in
    let m = inodes_of old extents iags agsize numag in
    let size = length-bits_of n old in
    let f = λ (i : ℕ). not (is_in_run (32 * e) 32 i) && is_used m i in
    ap (λ (t : List Bool). seen t (set extents e at) iags agsize numag)
    (sym (bits-are n new (map f (range_with_len 0 (length (bits_of n old)))) (length-map-range_with_len f 0 (length (bits_of n old)) ∙ size)
    (λ k h. get_or-map-range_with_len f 0 (length (bits_of n old)) k k false (omega (arith, size)) (omega arith) ∙ ap (λ (z : Bool). not (is_in_run (32 * e) 32 k) && z) (bit-at n old k h) ∙ sym (bits k))))

pub put-view : (old new : List ℕ) (extents : List Pxd) (iags agsize numag n : ℕ) → 4 ≤ n → is_used (inodes_of old extents iags agsize numag) n ≡ true → n < 4096 * iags → is_taken new n ≡ false → ((b : ℕ) → b ≢ n → is_taken new b ≡ is_taken old b) → inodes_of new extents iags agsize numag ≡ with_put_back n (inodes_of old extents iags agsize numag)
put-view old new extents iags agsize numag n least used within here other =
    let m = inodes_of old extents iags agsize numag in
    let test : (nat_le 4 n && is_used m n) ≡ true = and_true (nat_le 4 n) (is_used m n) (le-leb 4 n least) ∙ used in
    cleared-view old new extents iags agsize numag n within here other ∙ sym (cond-true (nat_le 4 n && is_used m n) (seen (set (bits_of (4096 * iags) old) n false) extents iags agsize numag) m test)
