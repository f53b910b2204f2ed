-- What is reserved for a transaction, and given back.
use Rattle.std.specs.Bool.{⊤}
use Rattle.std.proofs.Common.{◌≡◌, ◌⊎◌, ◌<◌, ◌≤◌, nat_lt, if◌then◌else◌, ℕ, Bool, true, List, length, Option, sym, ap, ◌∙◌, subst, inl, inr, arith}
use Rattle.std.proofs.lemmas.Bool.{cases_lt, lt-ltb}
use Rattle.std.proofs.lemmas.List.{ext_get_or, get_or_past}
use Rattle.jfs_bits.specs.declared.descriptor.Moment.{Moment}
use Rattle.jfs_disk.specs.declared.disk.Fault.{Fault}
use Rattle.jfs_ranges.specs.declared.edit.Edit.{Edit}
use Rattle.jfs_entered.proofs.Extents.{AreShort}
use Rattle.jfs_entered.proofs.Used.{takes_is}
use Rattle.jfs_served.specs.shown.specs.bmap.specs.States.{Blocks, BlockState, Free, Owned, Reserved, state_of, is_in_list, put_state, AreReserved}
use Rattle.jfs_served.specs.shown.specs.bmap.proofs.States.{changed-at, changed-length}
use Rattle.jfs_served.specs.call.specs.Needs.{AnswersOf}
use Rattle.jfs_served.specs.call.specs.files.specs.Outcome.{reserved_by}
use Rattle.jfs_served.specs.call.specs.files.specs.declared.outcome.FileOutcome.{FileOutcome}
use Rattle.jfs_served.specs.plain.specs.declared.call.Entry.{Entry}
use Rattle.jfs_served.specs.plain.specs.declared.call.Request.{Request}
use Rattle.jfs_served.specs.volume.specs.data_steps.specs.declared.pages.DataPage.{DataPage}
use Rattle.jfs_served.specs.halves.specs.Change.{SameStates}
use Rattle.jfs_served.specs.halves.specs.Parts.{Parts}
use Rattle.jfs_served.specs.volume.specs.Asked.{IsAskedOf}
use Rattle.jfs_served.specs.volume.specs.Called.{JoinsNot, IsJoined, GoesOn, FailsBy, StopsReading, StopsPutting}
use Rattle.jfs_served.specs.volume.specs.Runs.{taken_in}
use Rattle.jfs_served.specs.volume.specs.pages.specs.Device.{IsSame}
use Rattle.jfs_served.specs.volume.specs.data_steps.specs.steps.specs.After.{takes}
use Rattle.jfs_served.specs.volume.proofs.Taken.{takes_runs}
use Rattle.jfs_served.proofs.Given.{IsKept, stays, comes, each, mid_size, back_at, back_size, state_by}
use Rattle.jfs_entries_kept.specs.kept_volumes.specs.Reserved.{SameButReserved, IsSpare}

-- a map with the same states at each of its blocks
pub all_states : (a b : Blocks) → length a.states ≡ length b.states → a.agsize ≡ b.agsize → ((c : ℕ) → state_of a c ≡ state_of b c) → SameStates a b
all_states a b size agsize same = record { states = ext_get_or Owned a.states b.states size (λ c l. same c); agsize = agsize }

-- blocks are reserved that were free
pub reserved : (tx : List Edit) (old mid : Blocks) → ((b : ℕ) → 0 < takes tx b → state_of old b ≡ Free) → mid ≡ reserved_by tx old → SameButReserved old mid
reserved tx old mid free is = record { size = mid_size tx old mid free is; agsize = ap (λ (m : Blocks). m.agsize) is; each = λ b. by b (each tx old mid free is b) }
  where
    by : (b : ℕ) → IsKept (takes tx b) (state_of old b) (state_of mid b) → (state_of mid b ≡ state_of old b) ⊎ (IsSpare (state_of old b) × IsSpare (state_of mid b))
    by b (stays none same) = inl same
    by b (comes more was held) = inr (inl was, inr held)

-- the states of one map in place of another's
pub other_memory : (old mid new : Blocks) → SameStates new mid → SameButReserved old mid → SameButReserved old new
other_memory old mid new same between = record {
  size = ap (λ (ss : List BlockState). length ss) same.states ∙ between.size;
  agsize = same.agsize ∙ between.agsize;
  each = λ b. by b (between.each b);
}
  where
    by : (b : ℕ) → (state_of mid b ≡ state_of old b) ⊎ (IsSpare (state_of old b) × IsSpare (state_of mid b)) → (state_of new b ≡ state_of old b) ⊎ (IsSpare (state_of old b) × IsSpare (state_of new b))
    by b (inl e) = inl (state_by new mid b same ∙ e)
    by b (inr (was, now)) = inr (was, subst IsSpare (sym (state_by new mid b same)) now)

pub no_change : (a b : Blocks) → SameStates b a → SameButReserved a b
no_change a b same = record { size = ap (λ (ss : List BlockState). length ss) same.states; agsize = same.agsize; each = λ c. inl (state_by b a c same) }

-- what was reserved is free again
pub given_back : (tx : List Edit) (old mid : Blocks) → ((b : ℕ) → state_of old b ≡ Reserved → ⊥) → ((b : ℕ) → 0 < takes tx b → state_of old b ≡ Free) → mid ≡ reserved_by tx old → AreReserved mid (taken_in tx) → SameStates (put_state Free (taken_in tx) mid) old
given_back tx old mid none free is are = all_states (put_state Free (taken_in tx) mid) old (back_size tx old mid none free is are) (ap (λ (m : Blocks). m.agsize) is) (back_at tx old mid none free is are)

-- So it is where the edits can be logged, whose runs are what they take.
pub unreserved_states : (blocks : ℕ) (tx : List Edit) (old mid : Blocks) → AreShort blocks tx → ((b : ℕ) → 0 < takes tx b → state_of old b ≡ Free) → mid ≡ reserved_by tx old → SameStates (put_state Free (taken_in tx) mid) old
unreserved_states blocks tx old mid short free is = all_states back old size (ap (λ (m : Blocks). m.agsize) is) at
  where
    back : Blocks
    back = put_state Free (taken_in tx) mid

    size : length back.states ≡ length old.states
    size = changed-length (λ (b : ℕ) (s : BlockState). if is_in_list (taken_in tx) b then Free else s) mid ∙ mid_size tx old mid free is

    runs : (b : ℕ) → is_in_list (taken_in tx) b ≡ nat_lt 0 (takes tx b)
    runs b = sym (takes_runs b tx) ∙ takes_is blocks tx b short

    at : (b : ℕ) → state_of back b ≡ state_of old b
    at b = by (cases_lt b (length mid.states)) (each tx old mid free is b)
      where
        some : (k : ℕ) → 0 < k → nat_lt 0 k ≡ true
        some k l = lt-ltb 0 k l

        by : (b < length mid.states) ⊎ (length mid.states ≤ b) → IsKept (takes tx b) (state_of old b) (state_of mid b) → state_of back b ≡ state_of old b
        by (inr past) k = get_or_past back.states b Owned (let s = changed-length (λ (c : ℕ) (s : BlockState). if is_in_list (taken_in tx) c then Free else s) mid in omega (arith, past, s))
            ∙ sym (get_or_past old.states b Owned (let t = mid_size tx old mid free is in omega (arith, past, t)))
        by (inl l) (stays zero same) = changed-at (λ (c : ℕ) (s : BlockState). if is_in_list (taken_in tx) c then Free else s) mid b l ∙ ap (λ (x : Bool). if x then Free else state_of mid b) (runs b ∙ ap (nat_lt 0) zero) ∙ same
        by (inl l) (comes more was held) = changed-at (λ (c : ℕ) (s : BlockState). if is_in_list (taken_in tx) c then Free else s) mid b l ∙ ap (λ (x : Bool). if x then Free else state_of mid b) (runs b ∙ some (takes tx b) more) ∙ sym was

-- ---- the parts

-- A volume that was asked, and whose call then changed no more than what is reserved and what was read, was asked.
pub asked_on : (old mid new : Parts) → IsAskedOf ⊤ ⊤ old mid → JoinsNot mid new → new.halted ≡ mid.halted → (⊤ → new.view ≡ mid.view) → IsSame ⊤ ⊤ mid.disk new.disk mid.past new.past → IsAskedOf ⊤ ⊤ old new
asked_on old mid new asked out halted view disk = record {
  parts = out.parts
      ∙ ap (λ (p : Parts). record p { view = new.view; disk = new.disk; past = new.past; faults = new.faults; map = new.map; halted = new.halted }) asked.parts
      ∙ ap (λ (h : Option Fault). record old { view = new.view; disk = new.disk; past = new.past; faults = new.faults; map = new.map; halted = h }) (halted ∙ ap (λ (p : Parts). p.halted) asked.parts);
  view = λ t. view t ∙ asked.view t;
  disk = record { image = λ t. disk.image t ∙ asked.disk.image t; states = λ c. disk.states c ∙ asked.disk.states c };
}

-- ---- a disk that tells its contents, and what a crash may leave

module _ (tells crashes : Type 0) (told : tells) (left : crashes) where
  pub to_asked : (old mid : Parts) → IsAskedOf tells crashes old mid → IsAskedOf ⊤ ⊤ old mid
  to_asked old mid a = record { parts = a.parts; view = λ t. a.view told; disk = record { image = λ t. a.disk.image told; states = λ c. a.disk.states left } }

  pub to_answers : (request : Request) (now : Moment) (old mid : Parts) (answer : FileOutcome) → AnswersOf tells request now old mid answer → AnswersOf ⊤ request now old mid answer
  to_answers request now old mid answer a = record {
    fault = a.fault;
    kept = a.kept;
    maps = λ t. a.maps told;
    contents = a.contents;
    none = a.none;
    single = λ t. a.single told;
    follows = λ t. a.follows told;
    starts = λ t. a.starts told;
    once = λ t. a.once told;
    own = λ t. a.own told;
    changes = a.changes;
    meets = λ t. a.meets told;
  }

  abbrev pub to_joined : (entry : Entry) (tx : List Edit) (put : List DataPage) (number : ℕ) (old new : Parts) → IsJoined tells crashes entry tx put number old new → IsJoined ⊤ ⊤ entry tx put number old new
  to_joined entry tx put number old new j = record {
    joins = record {
      notes = j.joins.notes;
      marks = j.joins.marks;
      each = j.joins.each;
      notes_are = λ t. j.joins.notes_are told;
      loggable = j.joins.loggable;
      room = j.joins.room;
      marks_are = λ t. j.joins.marks_are told;
      behind = j.joins.behind;
      gone = j.joins.gone;
      adds = j.joins.adds;
      number_is = j.joins.number_is;
      clean = j.joins.clean;
      whole = λ t. j.joins.whole told;
      shows = λ t. j.joins.shows told;
      faults = j.joins.faults;
    };
    writable = j.writable;
    moves = λ now seen asked t c. j.moves now seen asked (λ e. told) (λ e. left);
  }

  pub to_goes : (old new : Parts) → GoesOn tells crashes old new → GoesOn ⊤ ⊤ old new
  to_goes old new g = record { halted = g.halted; view = λ t. g.view told; faults = g.faults; disk = record { image = λ t. g.disk.image told; states = λ c. g.disk.states left } }

  pub to_fails : (tx : List Edit) (put : List DataPage) (fault : Fault) (old new : Parts) → FailsBy tells crashes tx put fault old new → FailsBy ⊤ ⊤ tx put fault old new
  to_fails tx put fault old new fails = record { is_fault = fails.is_fault; fails = by fails.fails }
    where
      by : StopsReading tells crashes old new ⊎ StopsPutting tells crashes tx put fault old new → StopsReading ⊤ ⊤ old new ⊎ StopsPutting ⊤ ⊤ tx put fault old new
      by (inl r) = inl (record { halted = r.halted; view = λ t. r.view told; disk = record { image = λ t. r.disk.image told; states = λ c. r.disk.states left } })
      by (inr p) = inr (record { halted = p.halted; view = λ t. p.view told; moves = λ seen asked t c. p.moves seen asked (λ e. told) (λ e. left) })
