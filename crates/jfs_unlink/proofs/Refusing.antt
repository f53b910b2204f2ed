-- Why unlink and rmdir are refused on a consistent volume, as the plain steps are.
use Rattle.std.proofs.Common.{◌≡◌, ◌⊎◌, ◌≤◌, ◌<◌, refl, sym, ap, ◌∙◌, inl, inr, ℕ, ◌==◌, not, Bool, true, false, List, [], ◌∷◌, length, Option, Some, Result, Ok, Err, arith, ne_eqb, eq-eqb}
use Rattle.jfs_bits.specs.declared.descriptor.Moment.{Moment}
use Rattle.jfs_imap.specs.Inodes.{Inodes}
use Rattle.jfs_loss.specs.bmap.specs.States.{Blocks}
use Rattle.jfs_plain.specs.Tree.{Tree, Found, found, found_at, object, place, walk, root, and_then, is_dir}
use Rattle.jfs_plain.specs.Moves.{falls, changed, dropped, unnamed}
use Rattle.jfs_plain.specs.Step.{Room, Outcome, refuse, has_names as has_entries, is_last_of_big, lost, unlink, rmdir}
use Rattle.jfs_plain.specs.declared.node.Node.{Node}
use Rattle.jfs_plain.specs.declared.refusal.Refusal.{Refusal}
use Rattle.jfs_plain.specs.declared.refusal.Refusal.TheVariants.{IsDir, NotDir, NotEmpty, FileTooBig, IntoItself}
use Rattle.jfs_plain.specs.declared.reply.Reply.TheVariants.{Done}
use Rattle.jfs_loss.specs.objects.specs.Objects.{IsWhole, spelled, has_names}
use Rattle.jfs_loss.specs.meaning.specs.Readers.{readers}
use Rattle.jfs_loss.specs.meaning.specs.Consistent.{IsConsistent}
use Rattle.jfs_loss.specs.way.specs.Answer.{is_open}
use Rattle.jfs_loss.specs.way.specs.Volume.{volume_of}
use Rattle.jfs_loss.specs.way.specs.Walk.{tree_in}
use Rattle.jfs_loss.specs.way.specs.declared.object.Held.{Held}
use Rattle.jfs_loss.specs.steps.proofs.LastNames.{object_is}
use Rattle.jfs_loss.specs.Causes.{MeetsTree}
use Rattle.jfs_loss.proofs.Holds.{extents_listed}
use Rattle.jfs_unlink.specs.Call as call
use Rattle.jfs_unlink.specs.Ends.{AreHeld, AreShown, AreEnds, FollowsEnds}
use Rattle.jfs_unlink.specs.declared.ends.Ends.{Ends}
use Rattle.jfs_unlink.proofs.Ended.{root_is, node_m, object_found, IsNodeOf}

-- ---- the plain steps

-- what stands behind an object that is found
abbrev unlinks : Room → Tree → List (List ℕ) → Moment → Found → Outcome
unlinks space t path now o = refuse (is_dir o.node.kind) IsDir (refuse (is_last_of_big space.limit o.node) FileTooBig (and_then (place t path) (λ p. Ok (Done, unnamed o.inode o.node.links now (lost p now t)))))

abbrev removes : Tree → List (List ℕ) → Moment → Found → Outcome
removes t path now o = refuse (not (is_dir o.node.kind)) NotDir (refuse (has_entries o.node) NotEmpty (and_then (place t path) (λ p. Ok (Done, dropped o.inode (changed p.dir falls (lost p now t))))))

none_of : (path : List (List ℕ)) → length path ≡ 0 → path ≡ []
none_of [] h = refl
none_of (x ∷ rest) h = absurd (omega (arith, h))

module _ (t : Tree) (path : List (List ℕ)) (now : Moment) where
  -- what the walk refuses is refused
  pub unlink_no_path : (space : Room) (why : Refusal) → FollowsEnds t path (Err why) → (unlink space t path now ≡ Err why) ⊎ (is_open why ≡ true)
  unlink_no_path space why (inl h) = inl (ap (λ (x : Result ℕ Refusal). and_then (and_then x (λ n. found n (t.nodes n))) (unlinks space t path now)) h)
  unlink_no_path space why (inr h) = inr h

  pub rmdir_no_path : 1 ≤ length path → (why : Refusal) → FollowsEnds t path (Err why) → (rmdir t path now ≡ Err why) ⊎ (is_open why ≡ true)
  rmdir_no_path some why (inl h) = inl (ap (λ (x : Bool). refuse x IntoItself (and_then (object t path) (removes t path now))) (ne_eqb (length path) 0 (λ e. absurd (omega (arith, some, e))))
      ∙ ap (λ (x : Result ℕ Refusal). and_then (and_then x (λ n. found n (t.nodes n))) (removes t path now)) h)
  rmdir_no_path some why (inr h) = inr h

  -- the root
  pub rmdir_no_root : length path ≡ 0 → rmdir t path now ≡ Err IntoItself
  rmdir_no_root h = ap (λ (x : Bool). refuse x IntoItself (and_then (object t path) (removes t path now))) (eq-eqb (length path) 0 h)

  pub unlink_no_root : (space : Room) (o : Node) → t.nodes root ≡ Some o → is_dir o.kind ≡ true → length path ≡ 0 → unlink space t path now ≡ Err IsDir
  unlink_no_root space o there dir h = ap (λ (x : List (List ℕ)). and_then (and_then (walk t root x) (λ n. found n (t.nodes n))) (unlinks space t path now)) (none_of path h)
      ∙ ap (λ (x : Option Node). and_then (found root x) (unlinks space t path now)) there
      ∙ ap (λ (x : Bool). refuse x IsDir (refuse (is_last_of_big space.limit o) FileTooBig (and_then (place t path) (λ p. Ok (Done, unnamed root o.links now (lost p now t)))))) dir

-- ---- an object at the end of a path

module _ (blocks : ℕ) (pages : ℕ → List ℕ) (whole : (b : ℕ) → b < blocks → length (pages b) ≡ 4096) (area : ℕ → ℕ) (bm : Blocks) (inodes : Inodes)
    (con : IsConsistent (readers blocks) (volume_of pages area bm inodes)) (path : List (List ℕ)) (some : 1 ≤ length path) (e : Ends) (held : AreHeld blocks inodes e) (shown : AreShown pages e)
    (ends : AreEnds (tree_in blocks pages area bm inodes) path e) (now : Moment) where
  abbrev t : Tree
  t = tree_in blocks pages area bm inodes

  abbrev node : IsNodeOf blocks pages t e.at
  node = node_m blocks pages area bm inodes con path some e held shown ends

  abbrev o : Node
  o = node.node

  -- a tree of a consistent volume breaks no rule
  pub meets_open : (why : Refusal) → MeetsTree {T = Held} blocks pages e.at (Err why) → is_open why ≡ true
  meets_open why (inl h) = absurd (h.1.1 w.extents (sym (extents_listed blocks pages e.at.inode (root_is blocks pages area bm inodes con e.at held.1 shown.1 ends.there whole) h.1.0) ∙ w.extents_are))
    where
      w : IsWhole (readers blocks) (spelled (readers blocks) pages e.at.inode)
      w = con.sound.whole e.at.number (spelled (readers blocks) pages e.at.inode) (object_is blocks pages area bm inodes con e.at held.1 shown.1 ends.there)
  meets_open why (inr h) = h

  module _ (space : Room) where
    at_object : unlink space t path now ≡ unlinks space t path now (found_at e.at.number o)
    at_object = ap (λ (x : Result Found Refusal). and_then x (unlinks space t path now)) (object_found blocks pages area bm inodes con path some e held shown ends)

    pub unlink_no_dir : has_names e.at.inode ≡ true → unlink space t path now ≡ Err IsDir
    unlink_no_dir h = at_object ∙ ap (λ (x : Bool). refuse x IsDir (refuse (is_last_of_big space.limit o) FileTooBig (and_then (place t path) (λ p. Ok (Done, unnamed e.at.number o.links now (lost p now t)))))) (node.dir ∙ h)

    pub unlink_no_big : (limit : ℕ) → space.limit ≡ limit → has_names e.at.inode ≡ false → call.is_last_of_big limit e.at.inode ≡ true → unlink space t path now ≡ Err FileTooBig
    unlink_no_big limit same file big = at_object
        ∙ ap (λ (x : Bool). refuse x IsDir (refuse (is_last_of_big space.limit o) FileTooBig (and_then (place t path) (λ p. Ok (Done, unnamed e.at.number o.links now (lost p now t)))))) (node.dir ∙ file)
        ∙ ap (λ (x : Bool). refuse x FileTooBig (and_then (place t path) (λ p. Ok (Done, unnamed e.at.number o.links now (lost p now t))))) (node.big file space.limit ∙ ap (λ (l : ℕ). call.is_last_of_big l e.at.inode) same ∙ big)

  dir_object : rmdir t path now ≡ removes t path now (found_at e.at.number o)
  dir_object = ap (λ (x : Bool). refuse x IntoItself (and_then (object t path) (removes t path now))) (ne_eqb (length path) 0 (λ h. absurd (omega (arith, some, h))))
      ∙ ap (λ (x : Result Found Refusal). and_then x (removes t path now)) (object_found blocks pages area bm inodes con path some e held shown ends)

  pub rmdir_no_file : has_names e.at.inode ≡ false → rmdir t path now ≡ Err NotDir
  rmdir_no_file h = dir_object ∙ ap (λ (x : Bool). refuse (not x) NotDir (refuse (has_entries o) NotEmpty (and_then (place t path) (λ p. Ok (Done, dropped e.at.number (changed p.dir falls (lost p now t))))))) (node.dir ∙ h)

  pub rmdir_no_full : has_names e.at.inode ≡ true → (length o.names == 0) ≡ false → rmdir t path now ≡ Err NotEmpty
  rmdir_no_full h full = dir_object ∙ ap (λ (x : Bool). refuse (not x) NotDir (refuse (has_entries o) NotEmpty (and_then (place t path) (λ p. Ok (Done, dropped e.at.number (changed p.dir falls (lost p now t))))))) (node.dir ∙ h)
      ∙ ap (λ (x : Bool). refuse (not x) NotEmpty (and_then (place t path) (λ p. Ok (Done, dropped e.at.number (changed p.dir falls (lost p now t)))))) full
