-- What a block map keeps, after a run was released, and after its busy blocks were settled.
use Rattle.std.proofs.Common.{◌≡◌, ◌<◌, ◌≤◌, ◌+◌, ◌-◌, ℕ, Bool, true, false, not, ◌&&◌, inl, inr, List, [], ◌∷◌, length, refl, sym, ap, ◌∙◌, arith}
use Rattle.std.specs.Prelude.{nat_le, if◌then◌else◌, Result, Ok, Err, OnErr}
use Rattle.std.specs.List.Sorted.{IsPermutation}
use Rattle.std.specs.declared.cmp.Reverse.{Reverse}
use Rattle.std.proofs.lemmas.List.Elements.{All-cons}
use Rattle.std.proofs.lemmas.List.Sorted.{All-permutation}
use Rattle.std.proofs.lemmas.Bool.{cases_Bool, and_parts}
use Rattle.jfs_bits.specs.Bits.{is_in_run}
use Rattle.jfs_bits.specs.declared.descriptor.Pxd.{Pxd}
use Rattle.jfs_bmap.specs.declared.freed.Freed.{Freed}
use Rattle.jfs_bmap.specs.Set.{taken_at, cleared}
use Rattle.jfs_bmap.specs.States.{released, released_state, blocks_settled, settled_state}
use Rattle.jfs_bmap.specs.Freed.{covers, runs_in, entry_at, is_due, IsInOrder}
use Rattle.jfs_bmap.specs.Kept.{Parts, state_in, ArePending, AreKept}
use Rattle.jfs_bmap.proofs.Views.{length-cleared, taken_at-cleared}
use Rattle.jfs_bmap.proofs.States.{in_list-one, state_by, state_in-by, same_blocks, view_of, view-length, view-changed, state-at}
use Rattle.jfs_bmap.proofs.Covered.{covered-more, covered-new}
use Rattle.jfs_bmap.proofs.Releases.{released-at, released-length}

-- ---- a run is released

-- the owned blocks of a run aren't held any more, and wait for its entry
pub record IsReleased (p q : Parts) (part : Freed) : Type 0 where
  pub within : part.first + part.blocks ≤ length p.owned
  pub owned : q.owned ≡ cleared part.first part.blocks p.owned
  pub blocks : length q.held ≡ length p.held
  pub held : (b : ℕ) → taken_at q.held b ≡ (not (covers part b && taken_at p.owned b) && taken_at p.held b)
  pub used : q.used ≡ p.used
  pub entries : (b : ℕ) → entry_at q.entries b ≡ (if covers part b && taken_at p.owned b then part.entry else entry_at p.entries b)
  pub order : IsInOrder q.heap
  pub runs : IsPermutation (part ∷ runs_in p.heap) (runs_in q.heap)

module _ {p q : Parts} {part : Freed} (kept : AreKept p) (r : IsReleased p q part) where
  owned-then : (b : ℕ) → taken_at q.owned b ≡ (not (covers part b) && taken_at p.owned b)
  owned-then b = rw r.owned (taken_at-cleared part.first part.blocks p.owned b r.within)

  size : length q.owned ≡ length p.owned
  size = ap length r.owned ∙ length-cleared part.first part.blocks p.owned

  -- the map keeps what it has to
  pub kept-released : AreKept q
  kept-released =
      record {
        most = rw size kept.most;
        held_blocks = r.blocks ∙ kept.held_blocks ∙ sym size;
        used_blocks = ap length r.used ∙ kept.used_blocks ∙ sym size;
        are_held = λ b o. r.held b ∙ still (covers part b) (taken_at p.owned b) (taken_at p.held b) (kept.are_held b) (sym (owned-then b) ∙ o);
        are_used = λ b h. rw r.used (kept.are_used b (and_parts (not (covers part b && taken_at p.owned b)) (taken_at p.held b) (sym (r.held b) ∙ h)).1);
        pending = record {
          order = r.order;
          within = rw r.used (All-permutation (λ run. run.first + run.blocks ≤ length p.used) (part ∷ runs_in p.heap) (runs_in q.heap) r.runs (All-cons (λ run. run.first + run.blocks ≤ length p.used) part (runs_in p.heap) (omega (arith, r.within, kept.used_blocks)) kept.pending.within));
          covered = λ b h u. elim (cases_Bool (covers part b && taken_at p.owned b)) [
            | inl e ↦ rw (r.entries b, e) (covered-new part (runs_in p.heap) (runs_in q.heap) r.runs b (and_parts (covers part b) (taken_at p.owned b) e).0)
            | inr e ↦ rw (r.entries b, e) (covered-more part (runs_in p.heap) (runs_in q.heap) r.runs (entry_at p.entries b) b (kept.pending.covered b (out (covers part b && taken_at p.owned b) (taken_at p.held b) e (sym (r.held b) ∙ h)) (sym (ap (λ (set : List Bool). taken_at set b) r.used) ∙ u)))
          ];
        };
      }
    where
      still : (x o h : Bool) → (o ≡ true → h ≡ true) → (not x && o) ≡ true → (not (x && o) && h) ≡ true
      still true o h k l = absurd (cc)
      still false o h k l = k l

      out : (z h : Bool) → z ≡ false → (not z && h) ≡ false → h ≡ false
      out true h k l = absurd (cc)
      out false h k l = l

  -- the state of each block then
  pub state-released : (b : ℕ) → state_in q b ≡ (if covers part b then released_state part.entry (state_in p b) else state_in p b)
  state-released b =
      state_in-by q b
      ∙ rw (owned-then b, r.held b, r.used, r.entries b, state_in-by p b) (one (covers part b) (taken_at p.owned b) (taken_at p.held b) (taken_at p.used b) (entry_at p.entries b) part.entry (kept.are_held b) (kept.are_used b))
    where
      one : (x o h u : Bool) (e entry : ℕ) → (o ≡ true → h ≡ true) → (h ≡ true → u ≡ true) → state_by (not x && o) (not (x && o) && h) u (if x && o then entry else e) ≡ (if x then released_state entry (state_by o h u e) else state_by o h u e)
      one false o h u e entry k l = refl
      one true true h true e entry k l = refl
      one true true h false e entry k l = absurd (cc (l (k refl)))
      one true false true u e entry k l = refl
      one true false false true e entry k l = refl
      one true false false false e entry k l = refl

  -- and so the map's value
  pub view-released : (run : Pxd) (agsize spare : ℕ) → ((b : ℕ) → b < length p.owned → covers part b ≡ is_in_run run.addr run.len b) → view_of q agsize (spare - 1) ≡ released (run ∷ []) part.entry (view_of p agsize spare)
  view-released run agsize spare same =
      let m = view_of p agsize spare in
      let before = view-length p agsize spare in
      let now = view-length q agsize (spare - 1) ∙ size in
      same_blocks (view_of q agsize (spare - 1)) (released (run ∷ []) part.entry m)
      (now ∙ sym (released-length (run ∷ []) part.entry m ∙ before))
      (λ b h.
      let within : b < length p.owned = omega (arith, now) in
      state-at q agsize (spare - 1) b
      ∙ state-released b
      ∙ rw (released-at (run ∷ []) part.entry m b (omega (arith, before)), in_list-one run b, ← same b within, state-at p agsize spare b) refl)
      refl refl

-- ---- busy blocks are settled

module _ (p : Parts) (used : List Bool) (heap : List (Reverse Freed)) (told : ℕ) (kept : AreKept p) (blocks : length used ≡ length p.used) (now : (b : ℕ) → taken_at used b ≡ (taken_at p.used b && not (is_due p.held p.entries told b))) where
  -- the parts after the busy blocks whose entries are told were freed
  abbrev pub freed_parts : Parts
  freed_parts = record p { used = used; heap = heap }

  pub kept-settled : ArePending p.held used p.entries heap → AreKept freed_parts
  kept-settled pending =
      record {
        most = kept.most;
        held_blocks = kept.held_blocks;
        used_blocks = blocks ∙ kept.used_blocks;
        are_held = kept.are_held;
        are_used = λ b h. now b ∙ rw (kept.are_used b h, h) refl;
        pending = pending;
      }

  pub view-settled : (agsize spare : ℕ) → view_of freed_parts agsize spare ≡ blocks_settled told (view_of p agsize spare)
  view-settled agsize spare =
      view-changed (λ b state. settled_state told state) p freed_parts agsize spare refl (λ b.
      state_in-by freed_parts b ∙ rw (now b, state_in-by p b) (one (taken_at p.owned b) (taken_at p.held b) (taken_at p.used b) (entry_at p.entries b)))
    where
      one : (o h u : Bool) (e : ℕ) → state_by o h (u && not (not h && nat_le e told)) e ≡ settled_state told (state_by o h u e)
      one true h u e = refl
      one false true u e = refl
      one false false false e = refl
      one false false true e = elim (cases_Bool (nat_le e told)) [ inl k ↦ rw k refl | inr k ↦ rw k refl ]

-- ---- the table of entries grows

module _ (p : Parts) (entries : List (List ℕ)) (same : (b : ℕ) → entry_at entries b ≡ entry_at p.entries b) where
  -- the parts with another table, in which each block has the entry that it had
  abbrev pub with_entries : Parts
  with_entries = record p { entries = entries }

  pub kept-entries : AreKept p → AreKept with_entries
  kept-entries kept =
      record {
        most = kept.most;
        held_blocks = kept.held_blocks;
        used_blocks = kept.used_blocks;
        are_held = kept.are_held;
        are_used = kept.are_used;
        pending = record {
          order = kept.pending.order;
          within = kept.pending.within;
          covered = λ b h u. rw (same b) (kept.pending.covered b h u);
        };
      }

  pub view-entries : (agsize spare : ℕ) → view_of with_entries agsize spare ≡ view_of p agsize spare
  view-entries agsize spare =
      same_blocks (view_of with_entries agsize spare) (view_of p agsize spare)
      (view-length with_entries agsize spare ∙ sym (view-length p agsize spare))
      (λ b h. state-at with_entries agsize spare b ∙ state_in-by with_entries b ∙ rw (same b, state-at p agsize spare b, state_in-by p b) refl)
      refl refl

-- what holds anyhow holds where a call failed
pub on_err : {T E P : Type 0} (r : Result T E) → P → OnErr r P
on_err (Ok value) p = tt
on_err (Err why) p = p
