-- The extents of a file of the aggregate lie within the file system part.
use Rattle.std.proofs.Common.{◌≡◌, refl, sym, ap, ◌∙◌, ℕ, ◌+◌, ◌-◌, Bool, true, false, ◌&&◌, ◌==◌, nat_le, nat_lt, if◌then◌else◌, bit_and, List, [], ◌∷◌, Some, None, arith}
use Rattle.std.specs.declared.result.Result.{Result}
use Rattle.std.specs.declared.result.Result.TheVariants.{Ok, Err}
use Rattle.std.proofs.lemmas.Bool.{leb-true, ltb-true, and_parts}
use Rattle.jfs_bits.specs.declared.extent.Xad.{Xad}
use Rattle.jfs_bits.specs.declared.rule.Rule.{Rule}
use Rattle.jfs_reader.specs.xtree.specs.Node.{xt_node, xt_scale, all_within, is_within}
use Rattle.jfs_xtpage.specs.declared.head.XtForm.{XtForm}
use Rattle.jfs_xtpage.specs.declared.head.XtForm.TheVariants as forms
use Rattle.jfs_reader.specs.xtree.proofs.Reading.{leaf_is}
use Rattle.jfs_reader.specs.page_tree.specs.Walk.{rows_of}
use Rattle.jfs_reader.specs.page_tree.proofs.Judge.{judged}
use Rattle.jfs_reader.specs.objects.specs.Contents.{block_in, block_of}
use Rattle.jfs_reader.specs.objects.specs.Objects.{listed}
use Rattle.jfs_reader.specs.objects.specs.Owners.{entries}
use Rattle.jfs_reader.specs.objects.specs.Image.{aggregate_at, file_walk, file_extents}
use Rattle.jfs_reader.specs.meaning.specs.Readers.{readers, root_of}
use Rattle.jfs_mount.specs.Files.{IsWithin, LieWithin}
use Rattle.jfs_mount.proofs.Range.{HasRows, tree_rows}

node_rows : (form : XtForm) (blocks : ℕ) (bytes : List ℕ) → HasRows blocks (xt_node form blocks bytes)
node_rows form blocks bytes es e = let l = leaf_is form blocks bytes es e in ap (all_within blocks) (sym l.2) ∙ l.0.range

module _ (blocks : ℕ) (page : ℕ → List ℕ) (k : ℕ) where
  rows_within : all_within blocks (rows_of (file_walk (readers blocks) page k)) ≡ true
  rows_within = tree_rows blocks xt_scale (λ b. xt_node forms.Full blocks (page b)) (λ m. node_rows forms.Full blocks (page m)) (xt_node forms.Root blocks (root_of (aggregate_at page k))) (node_rows forms.Root blocks (root_of (aggregate_at page k)))

  pub entries_within : (r : Result (List Xad) (ℕ × Rule)) → listed xt_scale (file_walk (readers blocks) page k) ≡ r → all_within blocks (entries r) ≡ true
  entries_within (Ok es) e = ap (all_within blocks) (sym (judged xt_scale 0 (file_walk (readers blocks) page k) es e).1) ∙ rows_within
  entries_within (Err fault) e = refl

  -- what was read of a tree, where it lies within the blocks
  pub told_extents : (now : ℕ) (es given : List Xad) → now ≡ blocks → listed xt_scale (file_walk (readers blocks) page k) ≡ Ok es → (all_within now es ≡ true → given ≡ es) → given ≡ file_extents (readers blocks) page k
  told_extents now es given same spelled h = h (ap (λ n. all_within n es) same ∙ entries_within (Ok es) spelled) ∙ sym (ap entries spelled)

-- ---- blocks of such extents

is_some : (a b : ℕ) → Some a ≡ Some b → a ≡ b
is_some a b e = cc e

not_some : (b : ℕ) → None ≡ Some b → ⊥
not_some b e = cc e

in_extent : (blocks : ℕ) (x : Xad) (k : ℕ) → is_within blocks x ≡ true → (nat_le x.offset k && nat_lt k (x.offset + x.at.len)) ≡ true → IsWithin blocks (block_in x k)
in_extent blocks x k h e = by (bit_and x.flag 0x08 == 0x08)
  where
    by : (b : Bool) → IsWithin blocks (if b then None else Some (x.at.addr + (k - x.offset)))
    by true = λ b f. absurd (not_some b f)
    by false = λ b f.
        let same = is_some (x.at.addr + (k - x.offset)) b f in
        let ends = leb-true (x.at.addr + x.at.len) blocks (and_parts (nat_le 1 x.at.len) (nat_le (x.at.addr + x.at.len) blocks) h).1 in
        let has = and_parts (nat_le x.offset k) (nat_lt k (x.offset + x.at.len)) e in
        let from = leb-true x.offset k has.0 in
        let to = ltb-true k (x.offset + x.at.len) has.1 in
        omega (arith, same, ends, from, to)

pub lie : (blocks : ℕ) (es : List Xad) → all_within blocks es ≡ true → LieWithin blocks es
lie blocks [] h k = λ b e. absurd (not_some b e)
lie blocks (x ∷ es) h k = by (lie blocks es (and_parts (is_within blocks x) (all_within blocks es) h).1 k) (nat_le x.offset k && nat_lt k (x.offset + x.at.len)) refl
  where
    by : IsWithin blocks (block_of es k) → (b : Bool) → (nat_le x.offset k && nat_lt k (x.offset + x.at.len)) ≡ b → IsWithin blocks (if b then block_in x k else block_of es k)
    by rest true e = in_extent blocks x k (and_parts (is_within blocks x) (all_within blocks es) h).0 e
    by rest false e = rest
