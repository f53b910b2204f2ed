-- What a client's calls make of the list of all entries: those of its lines, with its marks.
use Rattle.std.proofs.Common.{◌≡◌, ◌≤◌, ◌+◌, ◌⊎◌, ◌||◌, ℕ, suc, Bool, true, false, List, [], ◌∷◌, ◌++◌, length, take, refl, sym, ap, ◌∙◌, subst, inl, inr, arith, append_assoc, le_trans}
use Rattle.std.specs.Prelude.{◌&&◌, not, Option, Some, unwrap_or}
use Rattle.std.specs.Bool.{MatchBool}
use Rattle.std.proofs.lemmas.Bool.{false≢true}
use Rattle.std.proofs.lemmas.List.{append-nil, length-append}
use Rattle.jfs_bits.specs.declared.descriptor.Moment.{Moment}
use Rattle.jfs_disk.specs.declared.disk.Disk.{Ghosts}
use Rattle.jfs_disk.specs.declared.disk.Fault.{Fault}
use Rattle.jfs_plain.specs.CallStep.{writes}
use Rattle.jfs_plain.specs.declared.call.Ack.{Ack}
use Rattle.jfs_plain.specs.declared.call.Ack.TheVariants as acks
use Rattle.jfs_plain.specs.declared.call.Call.{Call}
use Rattle.jfs_plain.specs.declared.call.Call.TheVariants as calls
use Rattle.jfs_plain.specs.declared.call.Entry.{Entry}
use Rattle.jfs_plain.specs.declared.call.Line.{Line}
use Rattle.jfs_plain.specs.declared.call.Request.{Request}
use Rattle.jfs_plain.specs.declared.reply.Reply.{Reply}
use Rattle.jfs_plain.specs.declared.reply.Reply.TheVariants.{Done, Refused}
use Rattle.jfs_server.specs.Called.{KeepsPass}
use Rattle.jfs_server.specs.Client.{State, Did, Joined, Lacked, is_waiting, has_failed}
use Rattle.jfs_server.specs.Served.{client_of, log_standing}
use Rattle.jfs_server.specs.clients.specs.Ran.{wants_memory, Ran}
use Rattle.jfs_server.specs.serving.specs.Called.{Keeps, IsAcked}
use Rattle.jfs_server.specs.serving.specs.Calls.{Asked, asked, entry_of, is_rename, MayWait, MayGoOn}
use Rattle.jfs_server.specs.shared.specs.Entries.{Recorded}
use Rattle.jfs_server.specs.turns.specs.Lists.{Lacks, HasOwn}
use Rattle.jfs_server.specs.turns.specs.Standing.{Standing}
use Rattle.jfs_server.specs.turns.specs.declared.view.View.{View}
use Rattle.jfs_server.specs.shared.specs.legal.specs.served.specs.files.specs.Written.{renames}
use Rattle.jfs_run.specs.Calls.{IsTakenAs, is_done, waits_with}
use Rattle.jfs_run.specs.Clients.{ServerPass}
use Rattle.jfs_run.specs.Serving.{IsMarked, AreMarked}
use Rattle.jfs_run.proofs.Marked.{own, over, none}

pub some_of : {X : Type 0} {x y : X} → Some x ≡ Some y → x ≡ y
some_of {X} {x} e = ap (λ (o : Option X). unwrap_or o x) e

-- ---- what a pass knows goes on

keeps_same : {E : Type 0} (v : View E) → Keeps v v
keeps_same v = record { number = refl; base = refl; passes = (refl, refl, refl); points = ([], append-nil v.points); durable = omega arith; stable = omega arith }

keeps_on : {E : Type 0} (u v w : View E) → Keeps u v → Keeps v w → Keeps u w
keeps_on u v w a b = record {
  number = b.number ∙ a.number;
  base = b.base ∙ a.base;
  passes = (b.passes.0 ∙ a.passes.0, b.passes.1 ∙ a.passes.1, b.passes.2 ∙ a.passes.2);
  points = (a.points.0 ++ b.points.0, sym (append_assoc u.points a.points.0 b.points.0) ∙ ap (λ (ps : List ℕ). ps ++ b.points.0) a.points.1 ∙ b.points.1);
  durable = le_trans a.durable b.durable;
  stable = le_trans a.stable b.stable;
}

-- ---- what was taken to wait

done_of : (reply : Reply) → is_done reply ≡ true → reply ≡ Done
done_of Done e = refl
done_of (Refused why) e = absurd cc
done_of _ e = absurd cc

and_left : (a b : Bool) → (a && b) ≡ true → a ≡ true
and_left true b e = refl
and_left false b e = absurd cc

and_right : (a b : Bool) → (a && b) ≡ true → b ≡ true
and_right true b e = e
and_right false b e = absurd cc

not_false : (b : Bool) → not b ≡ true → b ≡ false
not_false true e = absurd cc
not_false false e = refl

renames_so : (c : Call) → is_rename c ≡ true → renames c ≡ true
renames_so (calls.Rename from to) e = refl
renames_so _ e = absurd cc

may_wait : (request : Request) (reply : Reply) → waits_with request reply ≡ true → MayWait request reply
may_wait request reply e =
    let rest = and_right (is_done reply) (not request.lazy && writes request.call) e in (
      done_of reply (and_left (is_done reply) (not request.lazy && writes request.call) e),
      and_right (not request.lazy) (writes request.call) rest,
      not_false request.lazy (and_left (not request.lazy) (writes request.call) rest),
    )

waits_by : (request : Request) (reply : Reply) → MayWait request reply → waits_with request reply ≡ true
waits_by request reply w = rw (w.0, w.2, w.1) refl

taken_as : (mark : Bool) (a : Asked) (reply : Reply) → (mark ≡ true → MayWait a.request reply) → (mark ≡ false → MayGoOn a.request reply) → IsTakenAs (entry_of a reply) mark
taken_as true a reply waits_so goes_so = waits_by a.request reply (waits_so refl)
taken_as false a reply waits_so goes_so = λ w. renames_so a.request.call (goes_so refl (may_wait a.request reply w))

not_true : (b : Bool) → (b ≡ true → ⊥) → b ≡ false
not_true true never = absurd (never refl)
not_true false never = refl

pub or_left : (a b : Bool) → a ≡ true → (a || b) ≡ true
or_left true b e = refl
or_left false b e = absurd cc

pub or_right : (a b : Bool) → b ≡ true → (a || b) ≡ true
or_right true b e = refl
or_right false b e = e

-- by what is known of the entry
module _ {L E : Type 0} (of_log : Standing L E) (halted : L → Option Fault) (a : Asked) (reply : Reply) (n : ℕ) (w : View E) where
  acked_waits : (ack : Ack) → IsAcked of_log halted a reply n w ack → is_waiting ack ≡ true → MayWait a.request reply
  acked_waits acks.Pending acked e = absurd cc
  acked_waits (acks.Durable entry) acked e = acked.0
  acked_waits (acks.Failed fault) acked e = acked.0

  acked_goes : (ack : Ack) → IsAcked of_log halted a reply n w ack → is_waiting ack ≡ false → MayGoOn a.request reply
  acked_goes acks.Pending acked e = acked
  acked_goes (acks.Durable entry) acked e = absurd cc
  acked_goes (acks.Failed fault) acked e = absurd cc

  acked_durable : (ack : Ack) → IsAcked of_log halted a reply n w ack → is_waiting ack ≡ true → has_failed ack ≡ false → n ≤ w.durable
  acked_durable acks.Pending acked e none_failed = absurd cc
  acked_durable (acks.Durable entry) acked e none_failed = acked.2
  acked_durable (acks.Failed fault) acked e none_failed = absurd cc

module _ {D : Type 0} (d : Ghosts D) where
  pub kept_same : (p : ServerPass d) → KeepsPass d p p
  kept_same p = record { table = refl; client = refl; keeps = keeps_same p.seat.me.0 }

  pub kept_on : (p q r : ServerPass d) → KeepsPass d p q → KeepsPass d q r → KeepsPass d p r
  kept_on p q r a b = record { table = b.table ∙ a.table; client = b.client ∙ a.client; keeps = keeps_on p.seat.me.0 q.seat.me.0 r.seat.me.0 a.keeps b.keeps }

  -- ---- the pass is the client's, and what it knew goes on

  pub record HasKept (p : ServerPass d) (new : State d) : Type 0 where
    pub after : ServerPass d
    pub has : new.pass ≡ Some after
    pub keeps : KeepsPass d p after

  kept_by : (want : Bool) (ls : List Line) (m new : State d) (q : ServerPass d) → m.pass ≡ Some q → MatchBool want (new ≡ m) (Ran (Did d) ls m new) → (Ran (Did d) ls m new → HasKept q new) → HasKept q new
  kept_by true ls m new q has same later = record { after = q; has = ap (λ (s : State d). s.pass) same ∙ has; keeps = kept_same q }
  kept_by false ls m new q has ran later = later ran

  pub kept : (lines : List Line) (old new : State d) (p : ServerPass d) → old.pass ≡ Some p → Ran (Did d) lines old new → HasKept p new
  kept [] old new p had ran = record { after = p; has = ap (λ (s : State d). s.pass) ran ∙ had; keeps = kept_same p }
  kept (l ∷ ls) old new p had (reply, ack, m, did, next) =
      let k = kept_by (wants_memory reply) ls m new did.after did.has next (λ ran. kept ls m new did.after did.has ran) in
      record {
        after = k.after;
        has = k.has;
        keeps = kept_on p did.after k.after (subst (λ (q : ServerPass d). KeepsPass d q did.after) (some_of (sym did.had ∙ had)) did.keeps) k.keeps;
      }

  -- and so does the moment of the calls
  moment_by : (want : Bool) (ls : List Line) (m e : State d) → MatchBool want (e ≡ m) (Ran (Did d) ls m e) → (Ran (Did d) ls m e → e.now ≡ m.now) → e.now ≡ m.now
  moment_by true ls m e same later = ap (λ (s : State d). s.now) same
  moment_by false ls m e ran later = later ran

  pub moment : (lines : List Line) (s e : State d) → Ran (Did d) lines s e → e.now ≡ s.now
  moment [] s e ran = ap (λ (t : State d). t.now) ran
  moment (l ∷ ls) s e (reply, ack, m, did, next) = moment_by (wants_memory reply) ls m e next (λ ran. moment ls m e ran) ∙ did.now

  -- there are no more marks than lines
  most_by : (want : Bool) (ls : List Line) (m e : State d) → MatchBool want (e ≡ m) (Ran (Did d) ls m e) → (Ran (Did d) ls m e → length e.waits ≤ length m.waits + length ls) → length e.waits ≤ length m.waits + length ls
  most_by true ls m e same later = let a = ap (λ (s : State d). length s.waits) same in omega (arith, a)
  most_by false ls m e ran later = later ran

  one_more : (line : ℕ) (request : Request) (reply : Reply) (ack : Ack) (old m : State d) (p q : ServerPass d) → Joined d line request reply ack old m p q ⊎ Lacked d reply ack old m p q → length m.waits ≤ length old.waits + 1
  one_more line request reply ack old m p q (inl joined) = let a = ap length joined.waits in omega (arith, a, length-append old.waits (is_waiting ack ∷ []))
  one_more line request reply ack old m p q (inr lacked) = let a = ap length lacked.waits in omega (arith, a)

  pub most_marks : (lines : List Line) (s e : State d) → Ran (Did d) lines s e → length e.waits ≤ length s.waits + length lines
  most_marks [] s e ran = let a = ap (λ (t : State d). length t.waits) ran in omega (arith, a)
  most_marks (l ∷ ls) s e (reply, ack, m, did, next) =
      let one = one_more l.number l.request reply ack s m did.before did.after did.called in
      let rest = most_by (wants_memory reply) ls m e next (λ ran. most_marks ls m e ran) in
      omega (arith, one, rest)

  module _ (now : Moment) (failed : Bool) (durable : ℕ) (list : List Recorded) where
    -- how a client is at the end: the list has no more of its entries, and what it knows to be durable is
    pub record Ends (new : State d) : Type 0 where
      pub last : ServerPass d
      pub has : new.pass ≡ Some last
      pub own : HasOwn client_of last.client last.seat.me.0.list list
      pub reached : last.seat.me.0.durable ≤ durable
      pub told : new.failed ≡ true → failed ≡ true

    -- from this pass on the list goes on with the client's entries of a front of these lines
    pub record GoesOn (lines : List Line) (old : State d) (p : ServerPass d) (new : State d) : Type 0 where
      pub count : ℕ
      pub within : count ≤ length lines
      pub marks : List Bool
      pub waits : new.waits ≡ old.waits ++ marks
      pub rest : List Recorded
      pub list_is : p.seat.me.0.list ++ rest ≡ list
      pub are : AreMarked now failed durable p.client (suc (length p.seat.me.0.list)) (take count lines) marks rest
      pub reached : p.seat.me.0.durable ≤ durable
      pub told : old.failed ≡ true → failed ≡ true

    stays : (lines : List Line) (s : State d) (p : ServerPass d) → s.pass ≡ Some p → Ends s → GoesOn lines s p s
    stays lines s p has e =
        let own = subst (λ (q : ServerPass d). HasOwn client_of q.client q.seat.me.0.list list) (some_of (sym e.has ∙ has)) e.own in
        record {
          count = 0;
          within = omega arith;
          marks = [];
          waits = sym (append-nil s.waits);
          rest = own.0;
          list_is = own.1;
          are = none now failed durable p.client (suc (length p.seat.me.0.list)) own.0 own.2;
          reached = subst (λ (q : ServerPass d). q.seat.me.0.durable ≤ durable) (some_of (sym e.has ∙ has)) e.reached;
          told = e.told;
        }

    -- ---- a call with its entry

    module _ (l : Line) (ls : List Line) (old m new : State d) (reply : Reply) (ack : Ack) (p q : ServerPass d) (at_now : old.now ≡ now) (keeps : KeepsPass d p q) (j : Joined d l.number l.request reply ack old m p q) (g : GoesOn ls m q new) where
      abbrev a : Asked
      a = asked p.client l.number l.request old.now

      abbrev before : List Recorded
      before = j.entry.0.before

      abbrev mine : Recorded
      mine = j.entry.0.mine

      abbrev after : List Recorded
      after = j.entry.0.after

      abbrev number : ℕ
      number = suc (length p.seat.me.0.list) + length before

      abbrev number_there : ℕ
      number_there = suc (length (p.seat.me.0.list ++ before))

      number_is : number_there ≡ number
      number_is = omega (arith, length-append p.seat.me.0.list before)

      its_told : has_failed ack ≡ true → failed ≡ true
      its_told f = g.told (j.failed ∙ or_right old.failed (has_failed ack) f)

      marked : IsMarked now failed durable p.client number l (is_waiting ack) mine
      marked = record {
        entry = record {
          client_is = ap (λ (e : Entry). e.client) j.entry.0.is.entry_is;
          line = ap (λ (e : Entry). e.line) j.entry.0.is.entry_is;
          call = ap (λ (e : Entry). e.call) j.entry.0.is.entry_is;
          lazy = ap (λ (e : Entry). e.lazy) j.entry.0.is.entry_is;
        };
        moment = j.entry.0.is.moment_is ∙ at_now;
        taken = subst (λ (e : Entry). IsTakenAs e (is_waiting ack)) (sym j.entry.0.is.entry_is)
            (taken_as (is_waiting ack) a reply (acked_waits (log_standing d) (λ y. y.side.halted) a reply number_there q.seat.me.0 ack j.entry.0.acked) (acked_goes (log_standing d) (λ y. y.side.halted) a reply number_there q.seat.me.0 ack j.entry.0.acked));
        reached = λ w none_failed.
            let known = acked_durable (log_standing d) (λ y. y.side.halted) a reply number_there q.seat.me.0 ack j.entry.0.acked w (not_true (has_failed ack) (λ f. false≢true (sym none_failed ∙ its_told f))) in
            omega (arith, known, number_is, g.reached);
      }

      number_of : p.seat.me.0.number ≡ p.client
      number_of = p.free.2

      lacks : (xs : List Recorded) → Lacks client_of p.seat.me.0.number xs → Lacks client_of p.client xs
      lacks xs none_of = subst (λ (k : ℕ). Lacks client_of k xs) number_of none_of

      behind : suc (length q.seat.me.0.list) ≡ suc number + length after
      behind = let long = ap length j.entry.0.list in omega (arith, long, length-append p.seat.me.0.list (before ++ mine ∷ after), length-append before (mine ∷ after))

      rest_are : AreMarked now failed durable p.client (suc number + length after) (take g.count ls) g.marks g.rest
      rest_are = subst {A = ℕ × ℕ} (λ z. AreMarked now failed durable z.0 z.1 (take g.count ls) g.marks g.rest) (λ i. (keeps.client i, behind i)) g.are

      pub with_entry : GoesOn (l ∷ ls) old p new
      with_entry = record {
        count = suc g.count;
        within = let w = g.within in omega (arith, w);
        marks = is_waiting ack ∷ g.marks;
        waits = g.waits ∙ ap (λ (ws : List Bool). ws ++ g.marks) j.waits ∙ append_assoc old.waits (is_waiting ack ∷ []) g.marks;
        rest = before ++ mine ∷ (after ++ g.rest);
        list_is = sym (ap (λ (xs : List Recorded). xs ++ g.rest) j.entry.0.list ∙ append_assoc p.seat.me.0.list (before ++ mine ∷ after) g.rest ∙ ap (λ (xs : List Recorded). p.seat.me.0.list ++ xs) (append_assoc before (mine ∷ after) g.rest)) ∙ g.list_is;
        are = over now failed durable p.client (suc (length p.seat.me.0.list)) (l ∷ take g.count ls) (is_waiting ack ∷ g.marks) before (mine ∷ (after ++ g.rest)) (lacks before j.entry.0.others_before)
            (own now failed durable p.client number (l ∷ take g.count ls) (is_waiting ack ∷ g.marks) mine (after ++ g.rest) j.entry.0.is.client_is
            (l, take g.count ls, is_waiting ack, g.marks, refl, refl, marked, over now failed durable p.client (suc number) (take g.count ls) g.marks after g.rest (lacks after j.entry.0.others_after) rest_are));
        reached = le_trans keeps.keeps.durable g.reached;
        told = λ f. g.told (j.failed ∙ or_left old.failed (has_failed ack) f);
      }

    -- ---- a call without one

    lacks_both : (k : ℕ) (xs ys : List Recorded) → Lacks client_of k xs → Lacks client_of k ys → Lacks client_of k (xs ++ ys)
    lacks_both k [] ys none_there none_here = none_here
    lacks_both k (x ∷ xs) ys none_there none_here = (none_there.0, lacks_both k xs ys none_there.1 none_here)

    without_entry : (lines : List Line) (old m : State d) (reply : Reply) (ack : Ack) (p q : ServerPass d) → KeepsPass d p q → m.pass ≡ Some q → Lacked d reply ack old m p q → Ends m → GoesOn lines old p m
    without_entry lines old m reply ack p q keeps has lacked ends =
        let g = stays lines m q has ends in
        let own = lacked.none.0.list in
        let others = subst (λ (r : ServerPass d). HasOwn client_of r.client r.seat.me.0.list list) (some_of (sym ends.has ∙ has)) ends.own in
        record {
          count = 0;
          within = omega arith;
          marks = [];
          waits = lacked.waits ∙ sym (append-nil old.waits);
          rest = own.0 ++ others.0;
          list_is = sym (append_assoc p.seat.me.0.list own.0 others.0) ∙ ap (λ (xs : List Recorded). xs ++ others.0) own.1 ∙ others.1;
          are = none now failed durable p.client (suc (length p.seat.me.0.list)) (own.0 ++ others.0)
              (lacks_both p.client own.0 others.0 (subst (λ (k : ℕ). Lacks client_of k own.0) p.free.2 own.2) (subst (λ (k : ℕ). Lacks client_of k others.0) keeps.client others.2));
          reached = le_trans keeps.keeps.durable g.reached;
          told = λ f. g.told (lacked.failed ∙ f);
        }

    -- ---- all of its lines

    rest_by : (want : Bool) (ls : List Line) (m new : State d) (q : ServerPass d) → m.pass ≡ Some q → Ends new → MatchBool want (new ≡ m) (Ran (Did d) ls m new) → (Ran (Did d) ls m new → GoesOn ls m q new) → GoesOn ls m q new
    rest_by true ls m new q has ends same later = subst (λ (s : State d). GoesOn ls m q s) (sym same) (stays ls m q has (subst Ends same ends))
    rest_by false ls m new q has ends ran later = later ran

    called_by : (l : Line) (ls : List Line) (old m new : State d) (reply : Reply) (ack : Ack) (p q : ServerPass d) → old.now ≡ now → KeepsPass d p q → m.pass ≡ Some q → Joined d l.number l.request reply ack old m p q ⊎ Lacked d reply ack old m p q → Ends new
        → MatchBool (wants_memory reply) (new ≡ m) (Ran (Did d) ls m new) → GoesOn ls m q new → GoesOn (l ∷ ls) old p new
    called_by l ls old m new reply ack p q at_now keeps has (inl joined) ends next g = with_entry l ls old m new reply ack p q at_now keeps joined g
    called_by l ls old m new reply ack p q at_now keeps has (inr lacked) ends next g =
        let same : new ≡ m = subst (λ (r : Reply). MatchBool (wants_memory r) (new ≡ m) (Ran (Did d) ls m new)) lacked.none.0.reply_is next in
        subst (λ (s : State d). GoesOn (l ∷ ls) old p s) (sym same) (without_entry (l ∷ ls) old m reply ack p q keeps has lacked (subst Ends same ends))

    pub goes : (lines : List Line) (old new : State d) (p : ServerPass d) → old.pass ≡ Some p → old.now ≡ now → Ends new → Ran (Did d) lines old new → GoesOn lines old p new
    goes [] old new p had at_now ends ran = subst (λ (s : State d). GoesOn [] old p s) (sym ran) (stays [] old p had (subst Ends ran ends))
    goes (l ∷ ls) old new p had at_now ends (reply, ack, m, did, next) =
        subst (λ (q : ServerPass d). GoesOn (l ∷ ls) old q new) (some_of (sym did.had ∙ had))
        (called_by l ls old m new reply ack did.before did.after at_now did.keeps did.has did.called ends next
        (rest_by (wants_memory reply) ls m new did.after did.has ends next (λ ran. goes ls m new did.after did.has (did.now ∙ at_now) ends ran)))
