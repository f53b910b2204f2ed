-- Canonical pages of the same inodes and extents hold the same bytes.
use Rattle.std.proofs.Common.{◌≡◌, ◌<◌, ◌≤◌, ◌+◌, ◌-◌, ◌*◌, ◌/◌, ◌%◌, ℕ, Bool, not, ◌&&◌, inl, inr, List, get_or, refl, sym, ap, ◌∙◌, arith}
use Rattle.std.specs.Prelude.{◌==◌}
use Rattle.std.proofs.lemmas.Bool.{cases_lt, true≢false}
use Rattle.std.proofs.lemmas.Grind.{same_number_lists}
use Rattle.jfs_bits.specs.declared.descriptor.Pxd.{Pxd}
use Rattle.jfs_bits.specs.Field.{field_of, range_of, AreBytes}
use Rattle.jfs_bits.specs.Bits.{is_taken, any_below, count_below}
use Rattle.jfs_bits.proofs.Buds.{any_below-same}
use Rattle.jfs_bits.proofs.Counts.{count_below-same}
use Rattle.jfs_bits.proofs.Places.{SameAt, field-same, range-same}
use Rattle.jfs_bits.proofs.SameMaps.{map-same, pxd-same}
use Rattle.jfs_iag.specs.declared.canonical.Links.{Links}
use Rattle.jfs_iag.specs.declared.control.InodeGroup.{InodeGroup}
use Rattle.jfs_iag.specs.Control.{no_group}
use Rattle.jfs_iag.specs.Canonical.{is_there, has_free, is_free_inode, has_free_inode, has_free_place, in_inode_list, in_place_list, end_of_list, IsNext, IsIagPage, IsGroupOf, IsControlPage}
use Rattle.jfs_iag.specs.Laws.{AreSame, IagPagesAgree, ControlPagesAgree}

join : (one other : List ℕ) (at m n : ℕ) → SameAt one other at m → SameAt one other (at + m) n → SameAt one other at (m + n)
join one other at m n a b k past near = elim (cases_lt k (at + m)) [ inl h ↦ a k past h | inr h ↦ b k h (omega arith) ]

meet : (x y p q v u : ℕ) → x ≡ p → x ≡ v → y ≡ q → y ≡ u → v ≡ u → p ≡ q
meet x y p q v u a b c d e = sym a ∙ b ∙ e ∙ sym d ∙ c

pub and-same : (a b c d : Bool) → a ≡ c → b ≡ d → (a && b) ≡ (c && d)
and-same a b c d e f = rw (e, f) refl

-- ---- what follows from the same inodes and extents

pub there-same : (iags : ℕ) (taken others : ℕ → Bool) (extent places : ℕ → Pxd) → AreSame iags taken others extent places → (e : ℕ) → e < 128 * iags → is_there (extent e) ≡ is_there (places e)
there-same iags taken others extent places s e h = ap is_there (s.extents e h)

pub free-same : (iags : ℕ) (taken others : ℕ → Bool) (extent places : ℕ → Pxd) → AreSame iags taken others extent places → (e : ℕ) → e < 128 * iags → has_free taken extent e ≡ has_free others places e
free-same iags taken others extent places s e h =
    and-same (is_there (extent e)) (any_below 32 (λ i. not (taken (32 * e + i)))) (is_there (places e)) (any_below 32 (λ i. not (others (32 * e + i))))
    (there-same iags taken others extent places s e h)
    (any_below-same 32 (λ i. not (taken (32 * e + i))) (λ i. not (others (32 * e + i))) (λ i k. ap not (s.inodes (32 * e + i) (omega arith))))

pub inode-same : (iags : ℕ) (taken others : ℕ → Bool) (extent places : ℕ → Pxd) → AreSame iags taken others extent places → (i : ℕ) → i < 4096 * iags → is_free_inode taken extent i ≡ is_free_inode others places i
inode-same iags taken others extent places s i h =
    and-same (is_there (extent (i / 32))) (not (taken i)) (is_there (places (i / 32))) (not (others i))
    (there-same iags taken others extent places s (i / 32) (omega arith)) (ap not (s.inodes i h))

pub inodes-listed : (iags numag g : ℕ) (taken others : ℕ → Bool) (extent places : ℕ → Pxd) → AreSame iags taken others extent places → (k : ℕ) → k < iags → in_inode_list taken extent numag g k ≡ in_inode_list others places numag g k
inodes-listed iags numag g taken others extent places s k h =
    and-same (k % numag == g) (has_free_inode taken extent k) (k % numag == g) (has_free_inode others places k) refl
    (any_below-same 128 (λ e. has_free taken extent (128 * k + e)) (λ e. has_free others places (128 * k + e)) (λ e b. free-same iags taken others extent places s (128 * k + e) (omega arith)))

pub places-listed : (iags numag g : ℕ) (taken others : ℕ → Bool) (extent places : ℕ → Pxd) → AreSame iags taken others extent places → (k : ℕ) → k < iags → in_place_list extent numag g k ≡ in_place_list places numag g k
places-listed iags numag g taken others extent places s k h =
    and-same (k % numag == g) (has_free_place extent k) (k % numag == g) (has_free_place places k) refl
    (any_below-same 128 (λ e. not (is_there (extent (128 * k + e)))) (λ e. not (is_there (places (128 * k + e)))) (λ e b. ap not (there-same iags taken others extent places s (128 * k + e) (omega arith))))

-- the first one of a list is one alone
pub next-same : (listed others : ℕ → Bool) (count from a b : ℕ) → ((k : ℕ) → k < count → listed k ≡ others k) → IsNext listed count from a → IsNext others count from b → a ≡ b
next-same listed others count from a b same (inl x) (inl y) = x.0 ∙ sym y.0
next-same listed others count from a b same (inl x) (inr y) = absurd (true≢false (sym y.2 ∙ sym (same b y.1) ∙ x.1 b y.0 y.1))
next-same listed others count from a b same (inr x) (inl y) = absurd (true≢false (sym x.2 ∙ same a x.1 ∙ y.1 a x.0 x.1))
next-same listed others count from a b same (inr x) (inr y) =
    elim (cases_lt a b) [
      | inl h ↦ absurd (true≢false (sym x.2 ∙ same a x.1 ∙ y.3 a x.0 h))
      | inr h ↦ elim (cases_lt b a) [
        | inl k ↦ absurd (true≢false (sym y.2 ∙ sym (same b y.1) ∙ x.3 b y.0 k))
        | inr k ↦ omega arith
      ]
    ]

-- ---- the page of an IAG

record Iags (taken others : ℕ → Bool) (extent places : ℕ → Pxd) (number start : ℕ) (links : Links) (one other : List ℕ) : Type 0 where
  same : AreSame 1 taken others extent places
  bytes : AreBytes one
  bytes_too : AreBytes other
  a : IsIagPage taken extent number start links one
  b : IsIagPage others places number start links other

front-same : (taken others : ℕ → Bool) (extent places : ℕ → Pxd) (number start : ℕ) (links : Links) (one other : List ℕ) → Iags taken others extent places number start links one other → SameAt one other 0 32
front-same taken others extent places number start links one other p =
    let field = λ (at width x y v : ℕ) (h : x ≡ field_of one at width) (c : x ≡ v) (k : y ≡ field_of other at width) (d : y ≡ v). field-same at width one other p.bytes p.bytes_too (meet x y (field_of one at width) (field_of other at width) v v h c k d refl) in
    let i = p.a.fields in
    let j = p.b.fields in
    let h = p.a.held in
    let k = p.b.held in
    let c = p.a.canonical in
    let d = p.b.canonical in
    join one other 0 28 4 (join one other 0 24 4 (join one other 0 20 4 (join one other 0 16 4 (join one other 0 12 4 (join one other 0 8 4
    (field 0 8 i.agstart j.agstart start h.agstart c.agstart k.agstart d.agstart)
    (field 8 4 i.iagnum j.iagnum number h.iagnum c.iagnum k.iagnum d.iagnum))
    (field 12 4 i.inofreefwd j.inofreefwd links.inofreefwd h.inofreefwd c.inofreefwd k.inofreefwd d.inofreefwd))
    (field 16 4 i.inofreeback j.inofreeback links.inofreeback h.inofreeback c.inofreeback k.inofreeback d.inofreeback))
    (field 20 4 i.extfreefwd j.extfreefwd links.extfreefwd h.extfreefwd c.extfreefwd k.extfreefwd d.extfreefwd))
    (field 24 4 i.extfreeback j.extfreeback links.extfreeback h.extfreeback c.extfreeback k.extfreeback d.extfreeback))
    (field 28 4 i.iagfree j.iagfree end_of_list h.iagfree c.iagfree k.iagfree d.iagfree)

-- a map by what its bits say
bits : (map page : List ℕ) (at words : ℕ) (f : ℕ → Bool) → map ≡ range_of page at (4 * words) → ((b : ℕ) → b < 32 * words → is_taken map b ≡ f b) → (b : ℕ) → b < 32 * words → is_taken (range_of page at (4 * words)) b ≡ f b
bits map page at words f held said b h = ap (λ (z : List ℕ). is_taken z b) (sym held) ∙ said b h

maps-same : (at words : ℕ) (taken others : ℕ → Bool) (extent places : ℕ → Pxd) (number start : ℕ) (links : Links) (one other m n : List ℕ) (f g : ℕ → Bool) → Iags taken others extent places number start links one other → at + 4 * words ≤ 4096
    → m ≡ range_of one at (4 * words) → n ≡ range_of other at (4 * words) → ((b : ℕ) → b < 32 * words → is_taken m b ≡ f b) → ((b : ℕ) → b < 32 * words → is_taken n b ≡ g b) → ((b : ℕ) → b < 32 * words → f b ≡ g b) → SameAt one other at (4 * words)
maps-same at words taken others extent places number start links one other m n f g p within held too says says_too equal =
    map-same at words one other p.bytes p.bytes_too (omega (arith, p.a.size)) (omega (arith, p.b.size)) (λ b h. bits m one at words f held says b h ∙ equal b h ∙ sym (bits n other at words g too says_too b h))

middle-same : (taken others : ℕ → Bool) (extent places : ℕ → Pxd) (number start : ℕ) (links : Links) (one other : List ℕ) → Iags taken others extent places number start links one other → SameAt one other 32 2016
middle-same taken others extent places number start links one other p =
    let i = p.a.fields in
    let j = p.b.fields in
    let h = p.a.held in
    let k = p.b.held in
    let c = p.a.canonical in
    let d = p.b.canonical in
    let full = maps-same 32 4 taken others extent places number start links one other i.inosmap j.inosmap (λ e. not (has_free taken extent e)) (λ e. not (has_free others places e)) p (omega arith) h.inosmap k.inosmap c.inosmap d.inosmap (λ e b. ap not (free-same 1 taken others extent places p.same e (omega arith))) in
    let there = maps-same 48 4 taken others extent places number start links one other i.extsmap j.extsmap (λ e. is_there (extent e)) (λ e. is_there (places e)) p (omega arith) h.extsmap k.extsmap c.extsmap d.extsmap (λ e b. there-same 1 taken others extent places p.same e (omega arith)) in
    let inodes = field-same 64 4 one other p.bytes p.bytes_too (meet i.nfreeinos j.nfreeinos (field_of one 64 4) (field_of other 64 4) (count_below 4096 (is_free_inode taken extent)) (count_below 4096 (is_free_inode others places)) h.nfreeinos c.nfreeinos k.nfreeinos d.nfreeinos (count_below-same 4096 (is_free_inode taken extent) (is_free_inode others places) (λ n b. inode-same 1 taken others extent places p.same n (omega arith)))) in
    let extents = field-same 68 4 one other p.bytes p.bytes_too (meet i.nfreeexts j.nfreeexts (field_of one 68 4) (field_of other 68 4) (count_below 128 (λ e. not (is_there (extent e)))) (count_below 128 (λ e. not (is_there (places e)))) h.nfreeexts c.nfreeexts k.nfreeexts d.nfreeexts (count_below-same 128 (λ e. not (is_there (extent e))) (λ e. not (is_there (places e))) (λ e b. ap not (there-same 1 taken others extent places p.same e (omega arith))))) in
    join one other 32 40 1976 (join one other 32 36 4 (join one other 32 32 4 (join one other 32 16 16 full there) inodes) extents) (range-same 72 1976 one other (p.a.pad ∙ sym p.b.pad))

sets-same : (taken others : ℕ → Bool) (extent places : ℕ → Pxd) (number start : ℕ) (links : Links) (one other : List ℕ) → Iags taken others extent places number start links one other → SameAt one other 2048 1024
sets-same taken others extent places number start links one other p =
    let set = λ (b : ℕ) (h : b < 32 * 128). p.same.inodes b (omega arith) in
    join one other 2048 512 512
    (maps-same 2048 128 taken others extent places number start links one other p.a.fields.wmap p.b.fields.wmap taken others p (omega arith) p.a.held.wmap p.b.held.wmap p.a.canonical.wmap p.b.canonical.wmap set)
    (maps-same 2560 128 taken others extent places number start links one other p.a.fields.pmap p.b.fields.pmap taken others p (omega arith) p.a.held.pmap p.b.held.pmap p.a.canonical.pmap p.b.canonical.pmap set)

extents-same : (taken others : ℕ → Bool) (extent places : ℕ → Pxd) (number start : ℕ) (links : Links) (one other : List ℕ) → Iags taken others extent places number start links one other → SameAt one other 3072 1024
extents-same taken others extent places number start links one other p k past near =
    let e = (k - 3072) / 8 in
    let within : e < 128 = omega arith in
    let run = sym (p.a.held.inoext e within) ∙ p.a.canonical.inoext e within ∙ p.same.extents e (omega arith) ∙ sym (p.b.canonical.inoext e within) ∙ p.b.held.inoext e within in
    pxd-same (3072 + 8 * e) one other p.bytes p.bytes_too run k (omega arith) (omega arith)

pub iags-same : IagPagesAgree
iags-same taken others extent places number start links one other same bytes bytes_too a b =
    let p : Iags taken others extent places number start links one other = record { same = same; bytes = bytes; bytes_too = bytes_too; a = a; b = b } in
    let all = join one other 0 3072 1024 (join one other 0 2048 1024 (join one other 0 32 2016 (front-same taken others extent places number start links one other p) (middle-same taken others extent places number start links one other p)) (sets-same taken others extent places number start links one other p)) (extents-same taken others extent places number start links one other p) in
    same_number_lists one other (a.size ∙ sym b.size) (λ k h. all k (omega arith) (omega (arith, a.size, h)))

-- ---- the control page

record Controls (taken others : ℕ → Bool) (extent places : ℕ → Pxd) (iags numag : ℕ) (one other : List ℕ) : Type 0 where
  same : AreSame iags taken others extent places
  bytes : AreBytes one
  bytes_too : AreBytes other
  a : IsControlPage taken extent iags numag one
  b : IsControlPage others places iags numag other

head-same : (taken others : ℕ → Bool) (extent places : ℕ → Pxd) (iags numag : ℕ) (one other : List ℕ) → Controls taken others extent places iags numag one other → SameAt one other 0 32
head-same taken others extent places iags numag one other p =
    let field = λ (at x y v u : ℕ) (h : x ≡ field_of one at 4) (c : x ≡ v) (k : y ≡ field_of other at 4) (d : y ≡ u) (e : v ≡ u). field-same at 4 one other p.bytes p.bytes_too (meet x y (field_of one at 4) (field_of other at 4) v u h c k d e) in
    let i = p.a.fields in
    let j = p.b.fields in
    let h = p.a.held in
    let k = p.b.held in
    let c = p.a.canonical in
    let d = p.b.canonical in
    let there = count_below-same (128 * iags) (λ e. is_there (extent e)) (λ e. is_there (places e)) (λ e b. there-same iags taken others extent places p.same e b) in
    let free = count_below-same (4096 * iags) (is_free_inode taken extent) (is_free_inode others places) (λ n b. inode-same iags taken others extent places p.same n b) in
    join one other 0 28 4 (join one other 0 24 4 (join one other 0 20 4 (join one other 0 16 4 (join one other 0 12 4 (join one other 0 8 4 (join one other 0 4 4
    (field 0 i.freeiag j.freeiag end_of_list end_of_list h.freeiag c.freeiag k.freeiag d.freeiag refl)
    (field 4 i.nextiag j.nextiag iags iags h.nextiag c.nextiag k.nextiag d.nextiag refl))
    (field 8 i.numinos j.numinos (32 * count_below (128 * iags) (λ e. is_there (extent e))) (32 * count_below (128 * iags) (λ e. is_there (places e))) h.numinos c.numinos k.numinos d.numinos (ap (λ (z : ℕ). 32 * z) there)))
    (field 12 i.numfree j.numfree (count_below (4096 * iags) (is_free_inode taken extent)) (count_below (4096 * iags) (is_free_inode others places)) h.numfree c.numfree k.numfree d.numfree free))
    (field 16 i.nbperiext j.nbperiext 4 4 h.nbperiext c.nbperiext k.nbperiext d.nbperiext refl))
    (field 20 i.l2nbperiext j.l2nbperiext 2 2 h.l2nbperiext c.l2nbperiext k.l2nbperiext d.l2nbperiext refl))
    (field 24 i.diskblock j.diskblock 0 0 h.diskblock c.diskblock k.diskblock d.diskblock refl))
    (field 28 i.maxag j.maxag (numag - 1) (numag - 1) h.maxag c.maxag k.maxag d.maxag refl)

group-equal : (taken others : ℕ → Bool) (extent places : ℕ → Pxd) (iags numag g : ℕ) (a b : InodeGroup) → AreSame iags taken others extent places → IsGroupOf taken extent iags numag g a → IsGroupOf others places iags numag g b → (a.inofree ≡ b.inofree) × (a.extfree ≡ b.extfree) × (a.numinos ≡ b.numinos) × (a.numfree ≡ b.numfree)
group-equal taken others extent places iags numag g a b s x y = (
  next-same (in_inode_list taken extent numag g) (in_inode_list others places numag g) iags 0 a.inofree b.inofree (inodes-listed iags numag g taken others extent places s) x.inofree y.inofree,
  next-same (in_place_list extent numag g) (in_place_list places numag g) iags 0 a.extfree b.extfree (places-listed iags numag g taken others extent places s) x.extfree y.extfree,
  x.numinos ∙ ap (λ (z : ℕ). 32 * z) (count_below-same (128 * iags) (λ e. is_there (extent e) && e / 128 % numag == g) (λ e. is_there (places e) && e / 128 % numag == g) (λ e h. and-same (is_there (extent e)) (e / 128 % numag == g) (is_there (places e)) (e / 128 % numag == g) (there-same iags taken others extent places s e h) refl)) ∙ sym y.numinos,
  x.numfree ∙ count_below-same (4096 * iags) (λ i. is_free_inode taken extent i && i / 4096 % numag == g) (λ i. is_free_inode others places i && i / 4096 % numag == g) (λ i h. and-same (is_free_inode taken extent i) (i / 4096 % numag == g) (is_free_inode others places i) (i / 4096 % numag == g) (inode-same iags taken others extent places s i h) refl) ∙ sym y.numfree,
)

groups-same : (taken others : ℕ → Bool) (extent places : ℕ → Pxd) (iags numag : ℕ) (one other : List ℕ) → Controls taken others extent places iags numag one other → SameAt one other 2048 2048
groups-same taken others extent places iags numag one other p k past near =
    let g = (k - 2048) / 16 in
    let within : g < 128 = omega arith in
    let h = p.a.held.groups g within in
    let d = p.b.held.groups g within in
    let equal = group-equal taken others extent places iags numag g (get_or p.a.fields.groups g no_group) (get_or p.b.fields.groups g no_group) p.same (p.a.canonical.groups g within) (p.b.canonical.groups g within) in
    let at = 2048 + 16 * g in
    let word = λ (place : ℕ) (e : field_of one place 4 ≡ field_of other place 4). field-same place 4 one other p.bytes p.bytes_too e in
    let first = word at (sym (ap (λ (z : InodeGroup). z.inofree) h) ∙ equal.0 ∙ ap (λ (z : InodeGroup). z.inofree) d) in
    let second = word (at + 4) (sym (ap (λ (z : InodeGroup). z.extfree) h) ∙ equal.1 ∙ ap (λ (z : InodeGroup). z.extfree) d) in
    let third = word (at + 8) (sym (ap (λ (z : InodeGroup). z.numinos) h) ∙ equal.2 ∙ ap (λ (z : InodeGroup). z.numinos) d) in
    let fourth = word (at + 12) (sym (ap (λ (z : InodeGroup). z.numfree) h) ∙ equal.3 ∙ ap (λ (z : InodeGroup). z.numfree) d) in
    join one other at 12 4 (join one other at 8 4 (join one other at 4 4 first second) third) fourth k (omega arith) (omega arith)

pub controls-same : ControlPagesAgree
controls-same taken others extent places iags numag one other same bytes bytes_too a b =
    let p : Controls taken others extent places iags numag one other = record { same = same; bytes = bytes; bytes_too = bytes_too; a = a; b = b } in
    let all = join one other 0 2048 2048 (join one other 0 32 2016 (head-same taken others extent places iags numag one other p) (range-same 32 2016 one other (a.pad ∙ sym b.pad))) (groups-same taken others extent places iags numag one other p) in
    same_number_lists one other (a.size ∙ sym b.size) (λ k h. all k (omega arith) (omega (arith, a.size, h)))
