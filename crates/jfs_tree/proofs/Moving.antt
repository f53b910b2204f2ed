-- A root that moves to a new page, as the draft shows it.
use Rattle.std.proofs.Common.{◌≡◌, ◌<◌, inr, ap, ◌∙◌, ℕ, ◌+◌, List, [], ◌∷◌, ◌++◌, Result, Ok, Err, OnOk, IfErr, arith}
use Rattle.jfs_bits.specs.declared.rule.Rule.{Rule}
use Rattle.jfs_ranges.specs.declared.view.ViewError.{ViewError}
use Rattle.jfs_tree.specs.Walk.{Child, Node, Leaf, Inner, Scale}
use Rattle.jfs_tree.specs.Edit.{IsApart, KeysRise, with_entry}
use Rattle.jfs_tree.specs.Form.{AtPlace, HasChildren, as_child}
use Rattle.jfs_tree.specs.Draft.{shown}
use Rattle.jfs_tree.specs.Call.{PutsOne}
use Rattle.jfs_tree.specs.Root.{RootChildDid, RootHereDid}
use Rattle.jfs_tree.specs.declared.draft.Drafted.{Drafted}
use Rattle.jfs_tree.specs.declared.form.Sibling.{Sibling}
use Rattle.jfs_tree.specs.declared.form.TreeError.{TreeError}
use Rattle.jfs_tree.specs.declared.form.TreeError.TheVariants.{View, Bad, Memory}
use Rattle.jfs_tree.proofs.Taking.{itself, another, taken_last}

view_memory : (v : ViewError) → View v ≡ Memory → ⊥
view_memory v h = cc

bad_memory : (page : ℕ) (rule : Rule) → Bad page rule ≡ Memory → ⊥
bad_memory page rule h = cc

pub here_moved : {P E : Type 0} (node : List ℕ → Node P E) (s : Scale P E) (x : E) (root after : Node P E) (moved put : List ℕ) (q : ℕ) (old new : List Drafted) (free left : List ℕ) (r : Result (Unit {0}) TreeError)
    → ((es : List E) → root ≡ Leaf es → node moved ≡ Leaf es)
    → ((es : List E) → node moved ≡ Leaf es → IsApart s x es → node put ≡ Leaf (with_entry s x es))
    → after ≡ Inner (record { key = s.least; page = q } ∷ []) → free ≡ left ++ q ∷ []
    → OnOk r (PutsOne old new q put) → IfErr r (λ e. e ≡ Memory) → RootHereDid node s x root after old new free left r
here_moved node s x root after moved put q old new free left (Ok u) entries puts above pop is cause = λ image es leaf apart.
    inr (
      q,
      omega arith,
      above,
      ap node (is image q ∙ itself q put (shown old image q)) ∙ puts es (entries es leaf) apart,
      (λ n ne. ap node (is image n ∙ another n q put (shown old image n) ne)),
      taken_last free left q pop,
    )
here_moved node s x root after moved put q old new free left (Err (View v)) entries puts above pop is cause = view_memory v cause
here_moved node s x root after moved put q old new free left (Err (Bad page rule)) entries puts above pop is cause = absurd (bad_memory page rule cause)
here_moved node s x root after moved put q old new free left (Err Memory) entries puts above pop is cause = tt

pub place_moved : {P E : Type 0} (a b : Node P E) (place : ℕ) (child : Child P) (all : List (Child P)) → ((cs : List (Child P)) → a ≡ Inner cs → b ≡ Inner cs) → AtPlace a place child all → AtPlace b place child all
place_moved a b place child all same at = record { front = at.front; before = at.before; back = at.back; was = same (at.front ++ at.before ∷ at.back) at.was; at = at.at; is = at.is }

one_more_level : (levels : ℕ) → levels < 7 → levels + 1 < 8
one_more_level levels h = omega (arith, h)

pub child_moved : {P E : Type 0} (node : List ℕ → Node P E) (s : Scale P E) (levels place : ℕ) (child : Sibling P) (root after : Node P E) (moved put : List ℕ) (q : ℕ) (old new : List Drafted) (free left : List ℕ) (r : Result (Unit {0}) TreeError)
    → levels < 7 → ((cs : List (Child P)) → root ≡ Inner cs → node moved ≡ Inner cs)
    → ((all : List (Child P)) → AtPlace (node moved) place (as_child child) all → KeysRise s all → HasChildren (node put) all)
    → after ≡ Inner (record { key = s.least; page = q } ∷ []) → free ≡ left ++ q ∷ []
    → OnOk r (PutsOne old new q put) → IfErr r (λ e. e ≡ Memory) → RootChildDid node s levels place child root after old new free left r
child_moved node s levels place child root after moved put q old new free left (Ok u) low children puts above pop is cause = λ image all at keys. (
  node put,
  puts all (place_moved root (node moved) place (as_child child) all children at) keys,
  inr (
    q,
    one_more_level levels low,
    above,
    ap node (is image q ∙ itself q put (shown old image q)),
    (λ n ne. ap node (is image n ∙ another n q put (shown old image n) ne)),
    taken_last free left q pop,
  ),
)
child_moved node s levels place child root after moved put q old new free left (Err (View v)) low children puts above pop is cause = view_memory v cause
child_moved node s levels place child root after moved put q old new free left (Err (Bad page rule)) low children puts above pop is cause = absurd (bad_memory page rule cause)
child_moved node s levels place child root after moved put q old new free left (Err Memory) low children puts above pop is cause = tt
