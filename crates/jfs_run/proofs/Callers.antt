-- A client for each pass, and the passes and the marks that they come back with.
use Rattle.std.proofs.Common.{◌≡◌, ◌≤◌, ◌<◌, suc, Bool, true, false, List, [], ◌∷◌, ◌++◌, length, refl, sym, ap, ◌∙◌, subst, arith, append_assoc}
use Rattle.std.specs.Prelude.{◌||◌, Option, Some, vec_capacity, slice_index_or, remove}
use Rattle.std.specs.Bool.{MatchBool}
use Rattle.std.specs.Global.{Vec}
use Rattle.std.specs.List.{AllByRecursion}
use Rattle.atomic_table.specs.Seated.{TableId}
use Rattle.jfs_bits.specs.declared.descriptor.Moment.{Moment}
use Rattle.jfs_disk.specs.declared.disk.Disk.{Ghosts}
use Rattle.jfs_plain.specs.declared.call.Line.{Line}
use Rattle.jfs_server.specs.Client.{State, Did, left_of}
use Rattle.jfs_server.specs.Running.{state_of, left_in, did_in}
use Rattle.jfs_server.specs.clients.specs.Ran.{wants_memory, Ran, AllMayRun, EachRan}
use Rattle.jfs_server.specs.declared.client.Client.{Client}
use Rattle.jfs_run.specs.Clients.{ServerPass, IsReady, AreReady, IsClientOf, AreClientsOf, HavePasses, IsBack, AreBack, Came, EachCame}
use Rattle.jfs_run.proofs.Came.{kept, moment, or_left, or_right}

-- the first of a list is taken out
pub first_out : {X : Type 0} (xs : List X) (x : X) → 0 < length xs → x ≡ slice_index_or xs 0 x → xs ≡ x ∷ remove xs 0
first_out [] x some is = absurd (omega (arith, some))
first_out (y ∷ ys) x some is = ap (λ z. z ∷ ys) (sym is)

pub nil_of : {X : Type 0} (xs : List X) → length xs ≡ 0 → xs ≡ []
nil_of [] none = refl
nil_of (x ∷ xs) none = absurd (omega (arith, none))

-- what is so of all is so of the first and of the others
pub first_all : {X : Type 0} (P : X → Type 0) (xs ys : List X) (x : X) → xs ≡ x ∷ ys → AllByRecursion P xs → P x × AllByRecursion P ys
first_all P xs ys x is all = subst (AllByRecursion P) is all

module _ {D G : Type 0} (d : Ghosts D) where
  -- ---- they are taken back one after the other

  abbrev pub AreBackSoFar : Bool → List (Client D G d) → List (Client D G d) → List (ServerPass d) → List (Vec Bool) → Type 0
  AreBackSoFar failed all left passes marks = (final : Bool) → (failed ≡ true → final ≡ true) → (ps : List (ServerPass d)) (ws : List (Vec Bool)) → AreBack d final left ps ws → AreBack d final all (passes ++ ps) (marks ++ ws)

  pub one_back : (failed its : Bool) (all left cs : List (Client D G d)) (c : Client D G d) (passes : List (ServerPass d)) (marks : List (Vec Bool)) (p : ServerPass d) (w : Vec Bool) → left ≡ c ∷ cs → c.pass ≡ Some p → w ≡ c.waits → its ≡ c.failed
      → AreBackSoFar failed all left passes marks → AreBackSoFar (failed || its) all cs (passes ++ p ∷ []) (marks ++ w ∷ [])
  one_back failed its all left cs c passes marks p w left_is has waits_are its_is so_far final told ps ws rest =
      subst {A = List (ServerPass d) × List (Vec Bool)} (λ z. AreBack d final all z.0 z.1) (λ i. (sym (append_assoc passes (p ∷ []) ps) i, sym (append_assoc marks (w ∷ []) ws) i))
      (so_far final (λ f. told (or_left failed its f)) (p ∷ ps) (w ∷ ws)
      (subst (λ (xs : List (Client D G d)). AreBack d final xs (p ∷ ps) (w ∷ ws)) (sym left_is) (record { pass = has; waits = waits_are; told = λ f. told (or_right failed its (its_is ∙ f)) }, rest)))

  states_by : (want : Bool) (ls : List Line) (m e : Client D G d) → MatchBool want (e ≡ m) (Ran (did_in d) ls m e) → (Ran (did_in d) ls m e → Ran (Did d) ls (state_of d m) (state_of d e)) → MatchBool want (state_of d e ≡ state_of d m) (Ran (Did d) ls (state_of d m) (state_of d e))
  states_by true ls m e same later = ap (state_of d) same
  states_by false ls m e ran later = later ran

  -- a run of clients is one of what they are
  states_ran : (lines : List Line) (c e : Client D G d) → Ran (did_in d) lines c e → Ran (Did d) lines (state_of d c) (state_of d e)
  states_ran [] c e ran = ap (state_of d) ran
  states_ran (l ∷ ls) c e (reply, ack, m, did, next) = (reply, ack, state_of d m, did, states_by (wants_memory reply) ls m e next (λ ran. states_ran ls m e ran))

module _ {D G : Type 0} (d : Ghosts D) (now : Moment) where
  -- ---- they are made one after the other

  -- With clients of the passes that are left, those so far are the clients of all.
  abbrev pub AreSoFar : List (ServerPass d) → List (Vec Bool) → List (Client D G d) → List (ServerPass d) → List (Vec Bool) → Type 0
  AreSoFar all_passes all_marks made passes marks = (cs : List (Client D G d)) → AreClientsOf d now passes marks cs → AreClientsOf d now all_passes all_marks (made ++ cs)

  pub one_made : (all_passes : List (ServerPass d)) (all_marks : List (Vec Bool)) (made : List (Client D G d)) (passes ps : List (ServerPass d)) (marks ws : List (Vec Bool)) (p : ServerPass d) (w : Vec Bool) (c : Client D G d)
      → passes ≡ p ∷ ps → marks ≡ w ∷ ws → IsClientOf d now p w c → AreSoFar all_passes all_marks made passes marks → AreSoFar all_passes all_marks (made ++ c ∷ []) ps ws
  one_made all_passes all_marks made passes ps marks ws p w c passes_are marks_are is so_far cs rest =
      subst (AreClientsOf d now all_passes all_marks) (sym (append_assoc made (c ∷ []) cs))
      (so_far (c ∷ cs) (subst {A = List (ServerPass d) × List (Vec Bool)} (λ z. AreClientsOf d now z.0 z.1 (c ∷ cs)) (λ i. (sym passes_are i, sym marks_are i)) (is, rest)))

  -- ---- they have what they need

  pub may_run : (table : TableId) (scripts : List (Vec Line)) (ps : List (ServerPass d)) (ws : List (Vec Bool)) (cs : List (Client D G d)) → AreReady d table scripts ps ws → AreClientsOf d now ps ws cs → AllMayRun (left_in d) scripts cs
  may_run table [] [] [] [] ready are = tt
  may_run table [] [] [] (c ∷ cs) ready are = absurd are
  may_run table [] [] (w ∷ ws) cs ready are = absurd ready
  may_run table [] (p ∷ ps) ws cs ready are = absurd ready
  may_run table (s ∷ ss) [] ws cs ready are = absurd ready
  may_run table (s ∷ ss) (p ∷ ps) [] cs ready are = absurd ready
  may_run table (s ∷ ss) (p ∷ ps) (w ∷ ws) [] ready are = absurd are
  may_run table (s ∷ ss) (p ∷ ps) (w ∷ ws) (c ∷ cs) ready are = (
    (
      ready.0.fits,
      subst {A = Option (ServerPass d) × Vec Bool} (λ z. length s.items ≤ left_of d z.0 (vec_capacity z.1) z.1.items) (λ i. (sym are.0.pass i, sym are.0.waits i))
          (let calls = ready.0.calls in let room = ready.0.room in let none = ap length ready.0.none in omega (arith, calls, room, none)),
    ),
    may_run table ss ps ws cs ready.1 are.1,
  )

  -- ---- they come back

  pub have : (scripts : List (Vec Line)) (ps : List (ServerPass d)) (ws : List (Vec Bool)) (cs es : List (Client D G d)) → AreClientsOf d now ps ws cs → EachRan (did_in d) scripts cs es → HavePasses d es
  have scripts ps ws cs [] are ran = tt
  have [] ps ws [] (e ∷ es) are ran = absurd ran
  have [] ps ws (c ∷ cs) (e ∷ es) are ran = absurd ran
  have (s ∷ ss) ps ws [] (e ∷ es) are ran = absurd ran
  have (s ∷ ss) [] [] (c ∷ cs) (e ∷ es) are ran = absurd are
  have (s ∷ ss) [] (w ∷ ws) (c ∷ cs) (e ∷ es) are ran = absurd are
  have (s ∷ ss) (p ∷ ps) [] (c ∷ cs) (e ∷ es) are ran = absurd are
  have (s ∷ ss) (p ∷ ps) (w ∷ ws) (c ∷ cs) (e ∷ es) are ran =
      let k = kept d s.items (state_of d c) (state_of d e) p are.0.pass (states_ran d s.items c e ran.0) in
      ((k.after, k.has), have ss ps ws cs es are.1 ran.1)

  one_came : (table : TableId) (failed : Bool) (lines : List Line) (p q : ServerPass d) (w marks : Vec Bool) (c e : Client D G d) → IsReady d table lines p w → IsClientOf d now p w c → Ran (did_in d) lines c e → IsBack d failed e q marks → Came d now failed lines p q marks.items
  one_came table failed lines p q w marks c e ready is ran back =
      let waits : c.waits.items ≡ [] = ap (λ (v : Vec Bool). v.items) is.waits ∙ ready.none in
      let begins : state_of d c ≡ record { pass = Some p; now = now; waits = []; failed = false } = λ i. record { pass = is.pass i; now = is.moment i; waits = waits i; failed = is.failed i } in
      let at = moment d lines (state_of d c) (state_of d e) (states_ran d lines c e ran) ∙ is.moment in
      let left : marks.items ≡ e.waits.items = ap (λ (v : Vec Bool). v.items) back.waits in
      let ends : state_of d e ≡ record { pass = Some q; now = now; waits = marks.items; failed = e.failed } = λ i. record { pass = back.pass i; now = at i; waits = sym left i; failed = e.failed } in
      record {
        its = e.failed;
        told = back.told;
        ran = subst {A = State d × State d} (λ z. Ran (Did d) lines z.0 z.1) (λ i. (begins i, ends i)) (states_ran d lines c e ran);
      }

  pub each_came : (table : TableId) (failed : Bool) (scripts : List (Vec Line)) (ps qs : List (ServerPass d)) (ws marks : List (Vec Bool)) (cs es : List (Client D G d))
      → AreReady d table scripts ps ws → AreClientsOf d now ps ws cs → EachRan (did_in d) scripts cs es → AreBack d failed es qs marks → EachCame d now failed scripts ps qs marks
  each_came table failed [] [] [] [] [] [] [] ready are ran back = tt
  each_came table failed (s ∷ ss) (p ∷ ps) (q ∷ qs) (w ∷ ws) (m ∷ ms) (c ∷ cs) (e ∷ es) ready are ran back =
      (one_came table failed s.items p q w m c e ready.0 are.0 ran.0 back.0, each_came table failed ss ps qs ws ms cs es ready.1 are.1 ran.1 back.1)
  each_came table failed [] [] qs (w ∷ ws) ms cs es ready are ran back = absurd ready
  each_came table failed [] (p ∷ ps) qs ws ms cs es ready are ran back = absurd ready
  each_came table failed (s ∷ ss) [] qs ws ms cs es ready are ran back = absurd ready
  each_came table failed (s ∷ ss) (p ∷ ps) qs [] ms cs es ready are ran back = absurd ready
  each_came table failed [] [] qs [] ms (c ∷ cs) es ready are ran back = absurd are
  each_came table failed (s ∷ ss) (p ∷ ps) qs (w ∷ ws) ms [] es ready are ran back = absurd are
  each_came table failed [] [] qs [] ms [] (e ∷ es) ready are ran back = absurd ran
  each_came table failed (s ∷ ss) (p ∷ ps) qs (w ∷ ws) ms (c ∷ cs) [] ready are ran back = absurd ran
  each_came table failed [] [] (q ∷ qs) [] ms [] [] ready are ran back = absurd back
  each_came table failed [] [] [] [] (m ∷ ms) [] [] ready are ran back = absurd back
  each_came table failed (s ∷ ss) (p ∷ ps) [] (w ∷ ws) ms (c ∷ cs) (e ∷ es) ready are ran back = absurd back
  each_came table failed (s ∷ ss) (p ∷ ps) (q ∷ qs) (w ∷ ws) [] (c ∷ cs) (e ∷ es) ready are ran back = absurd back

module _ {D : Type 0} (d : Ghosts D) (table : TableId) where
  -- ---- what is ready, one thing at a time

  pub all_of_table : (scripts : List (Vec Line)) (ps : List (ServerPass d)) (ws : List (Vec Bool)) → AreReady d table scripts ps ws → AllByRecursion (λ p. p.seat.table_id ≡ table) ps
  all_of_table [] [] [] ready = tt
  all_of_table (s ∷ ss) (p ∷ ps) (w ∷ ws) ready = (ready.0.table_is, all_of_table ss ps ws ready.1)
  all_of_table [] [] (w ∷ ws) ready = absurd ready
  all_of_table [] (p ∷ ps) ws ready = absurd ready
  all_of_table (s ∷ ss) [] ws ready = absurd ready
  all_of_table (s ∷ ss) (p ∷ ps) [] ready = absurd ready

  pub none_marked : (scripts : List (Vec Line)) (ps : List (ServerPass d)) (ws : List (Vec Bool)) → AreReady d table scripts ps ws → AllByRecursion (λ w. w.items ≡ []) ws
  none_marked [] [] [] ready = tt
  none_marked (s ∷ ss) (p ∷ ps) (w ∷ ws) ready = (ready.0.none, none_marked ss ps ws ready.1)
  none_marked [] [] (w ∷ ws) ready = absurd ready
  none_marked [] (p ∷ ps) ws ready = absurd ready
  none_marked (s ∷ ss) [] ws ready = absurd ready
  none_marked (s ∷ ss) (p ∷ ps) [] ready = absurd ready

  pub as_many_ready : (scripts : List (Vec Line)) (ps : List (ServerPass d)) (ws : List (Vec Bool)) → AreReady d table scripts ps ws → (length ps ≡ length scripts) × (length ws ≡ length scripts)
  as_many_ready [] [] [] ready = (refl, refl)
  as_many_ready (s ∷ ss) (p ∷ ps) (w ∷ ws) ready = let many = as_many_ready ss ps ws ready.1 in (ap suc many.0, ap suc many.1)
  as_many_ready [] [] (w ∷ ws) ready = absurd ready
  as_many_ready [] (p ∷ ps) ws ready = absurd ready
  as_many_ready (s ∷ ss) [] ws ready = absurd ready
  as_many_ready (s ∷ ss) (p ∷ ps) [] ready = absurd ready

-- each script's client
pub as_many_ran : {D G : Type 0} (d : Ghosts D) (scripts : List (Vec Line)) (cs es : List (Client D G d)) → EachRan (did_in d) scripts cs es → length es ≡ length scripts
as_many_ran d [] [] [] ran = refl
as_many_ran d (s ∷ ss) (c ∷ cs) (e ∷ es) ran = ap suc (as_many_ran d ss cs es ran.1)
as_many_ran d [] [] (e ∷ es) ran = absurd ran
as_many_ran d [] (c ∷ cs) es ran = absurd ran
as_many_ran d (s ∷ ss) [] es ran = absurd ran
as_many_ran d (s ∷ ss) (c ∷ cs) [] ran = absurd ran
