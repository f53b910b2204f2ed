-- Each call that a line asks for is within the limits of calls, and only a changing one is lazy.
use Rattle.std.proofs.Common.{◌≡◌, ℕ, ◌+◌, Bool, true, false, List, [], ◌∷◌, ◌++◌, length, refl, subst, ◌∙◌, inl, inr}
use Rattle.std.specs.Prelude.{Option, Some, None, Result, Ok, Err}
use Rattle.std.specs.Result.{IfOk}
use Rattle.std.specs.Global.{Vec}
use Rattle.jfs_bits.specs.declared.rule.Rule.{Rule}
use Rattle.jfs_plain.specs.Call.{is_changing}
use Rattle.jfs_plain.specs.Limits.{FitsPath, FitsMode, FitsTarget, FitsBytes, FitsRange, FitsCall, FitsRequest}
use Rattle.jfs_plain.specs.declared.call.Call.{Call}
use Rattle.jfs_plain.specs.declared.call.Call.TheVariants as calls
use Rattle.jfs_plain.specs.declared.call.Line.{Line}
use Rattle.jfs_plain.specs.declared.call.Request.{Request}
use Rattle.jfs_script.specs.declared.error.ScriptError.{ScriptError}
use Rattle.jfs_script.specs.declared.verb.Verb.{Verb}
use Rattle.jfs_script.specs.declared.verb.Verb.TheVariants as verbs
use Rattle.jfs_script.specs.Lines.{is_skipped, is_text, lines_of, words_of}
use Rattle.jfs_script.specs.Words.{Path, PathAlone, PathAndMode, TwoPaths, PathAndTarget, PathAndSize, PathAndBytes, PathAndRange, PathAndFill}
use Rattle.jfs_script.specs.Line.{verb_of, may_be_lazy, Makes, CallIs, NoWords, FittingCallIs, NamedCallIs, LazyCallIs, CallAfter, RequestIs, TextIs, UnlessSkipped}
use Rattle.jfs_script.specs.Script.{Asks, no_lines, skips, calls as asks, AllFit}
use Rattle.jfs_script.specs.Progress.{IsFinished}
use Rattle.jfs_script.proofs.Limits.{mode_of-fits, count_of-fits, hex_of-fits}

-- ---- what was read came from its parts

made : {A C : Type 0} (make : A → C) (means : Result A Rule → Type 0) (x : C) → Makes make means (Ok x) → (a : A) × means (Ok a) × (make a ≡ x)
made make means x (inl (a, h, e)) = (a, h, cc)
made make means x (inr (rule, h, e)) = cc

same : {X : Type 0} (a b : X) → ◌≡◌ {A = Result X Rule} (Ok a) (Ok b) → b ≡ a
same a b e = cc

-- ---- the arguments of each shape

path_fits : (words : List (List ℕ)) (p : Path) → PathAlone words (Ok p) → FitsPath p
path_fits words p (inl (a, e, h)) = (a, h)
path_fits words p (inr (n, r)) = cc

mode_fits : (words : List (List ℕ)) (x : Path × ℕ) → PathAndMode words (Ok x) → FitsPath x.0 × FitsMode x.1
mode_fits words x (inl (a, b, e, inl (p, hp, inl (m, hm, r)))) = subst (λ (y : Path × ℕ). FitsPath y.0 × FitsMode y.1) (same x (p, m) r) ((a, hp), mode_of-fits b m hm)
mode_fits words x (inl (a, b, e, inr (rule, h, r))) = cc
mode_fits words x (inl (a, b, e, inl (p, hp, inr (rule, h, r)))) = cc
mode_fits words x (inr (n, r)) = cc

paths_fit : (words : List (List ℕ)) (x : Path × Path) → TwoPaths words (Ok x) → FitsPath x.0 × FitsPath x.1
paths_fit words x (inl (a, b, e, inl (p, hp, inl (q, hq, r)))) = subst (λ (y : Path × Path). FitsPath y.0 × FitsPath y.1) (same x (p, q) r) ((a, hp), (b, hq))
paths_fit words x (inl (a, b, e, inr (rule, h, r))) = cc
paths_fit words x (inl (a, b, e, inl (p, hp, inr (rule, h, r)))) = cc
paths_fit words x (inr (n, r)) = cc

target_fits : (words : List (List ℕ)) (x : Path × List ℕ) → PathAndTarget words (Ok x) → FitsPath x.0 × FitsTarget x.1
target_fits words x (inl (a, b, e, inl (p, hp, inl (t, ht, r)))) = subst (λ (y : Path × List ℕ). FitsPath y.0 × FitsTarget y.1) (same x (p, t) r) ((a, hp), (ht.1, ht.2))
target_fits words x (inl (a, b, e, inr (rule, h, r))) = cc
target_fits words x (inl (a, b, e, inl (p, hp, inr (rule, h, r)))) = cc
target_fits words x (inr (n, r)) = cc

size_fits : (words : List (List ℕ)) (x : Path × ℕ) → PathAndSize words (Ok x) → FitsPath x.0
size_fits words x (inl (a, b, e, inl (p, hp, inl (m, hm, r)))) = subst (λ (y : Path × ℕ). FitsPath y.0) (same x (p, m) r) (a, hp)
size_fits words x (inl (a, b, e, inr (rule, h, r))) = cc
size_fits words x (inl (a, b, e, inl (p, hp, inr (rule, h, r)))) = cc
size_fits words x (inr (n, r)) = cc

bytes_fit : (words : List (List ℕ)) (x : Path × ℕ × List ℕ) → PathAndBytes words (Ok x) → FitsPath x.0 × FitsBytes x.2
bytes_fit words x (inl (a, b, c, e, inl (p, hp, inl (m, hm, inl (bs, hb, r))))) = subst (λ (y : Path × ℕ × List ℕ). FitsPath y.0 × FitsBytes y.2) (same x (p, m, bs) r) ((a, hp), hex_of-fits c bs hb)
bytes_fit words x (inl (a, b, c, e, inr (rule, h, r))) = cc
bytes_fit words x (inl (a, b, c, e, inl (p, hp, inr (rule, h, r)))) = cc
bytes_fit words x (inl (a, b, c, e, inl (p, hp, inl (m, hm, inr (rule, h, r))))) = cc
bytes_fit words x (inr (n, r)) = cc

range_fits : (most : ℕ) (words : List (List ℕ)) (x : Path × ℕ × ℕ) → PathAndRange most words (Ok x) → FitsPath x.0 × FitsRange most x.1 x.2
range_fits most words x (inl (a, b, c, e, inl (p, hp, inl (m, hm, inl (k, hk, r))))) = subst (λ (y : Path × ℕ × ℕ). FitsPath y.0 × FitsRange most y.1 y.2) (same x (p, m, k) r) ((a, hp), count_of-fits most m c k hk)
range_fits most words x (inl (a, b, c, e, inr (rule, h, r))) = cc
range_fits most words x (inl (a, b, c, e, inl (p, hp, inr (rule, h, r)))) = cc
range_fits most words x (inl (a, b, c, e, inl (p, hp, inl (m, hm, inr (rule, h, r))))) = cc
range_fits most words x (inr (n, r)) = cc

fill_fits : (most : ℕ) (words : List (List ℕ)) (x : Path × ℕ × ℕ × ℕ) → PathAndFill most words (Ok x) → FitsPath x.0 × FitsRange most x.1 x.2
fill_fits most words x (inl (a, b, c, d, e, inl (p, hp, inl (m, hm, inl (k, hk, inl (b8, hb, r)))))) = subst (λ (y : Path × ℕ × ℕ × ℕ). FitsPath y.0 × FitsRange most y.1 y.2) (same x (p, m, k, b8) r) ((a, hp), count_of-fits most m c k hk)
fill_fits most words x (inl (a, b, c, d, e, inr (rule, h, r))) = cc
fill_fits most words x (inl (a, b, c, d, e, inl (p, hp, inr (rule, h, r)))) = cc
fill_fits most words x (inl (a, b, c, d, e, inl (p, hp, inl (m, hm, inr (rule, h, r))))) = cc
fill_fits most words x (inl (a, b, c, d, e, inl (p, hp, inl (m, hm, inl (k, hk, inr (rule, h, r)))))) = cc
fill_fits most words x (inr (n, r)) = cc

-- ---- calls, requests, lines

abbrev IsFit : Verb → Call → Type 0
IsFit verb call = FitsCall call × (is_changing call ≡ may_be_lazy verb)

call_fits : (verb : Verb) (words : List (List ℕ)) (call : Call) → CallIs verb words (Ok call) → IsFit verb call
call_fits verbs.Mkdir words call h = let d = made (λ a. calls.Mkdir a.0 a.1) (PathAndMode words) call h in subst (IsFit verbs.Mkdir) d.2 (mode_fits words d.0 d.1, refl)
call_fits verbs.Create words call h = let d = made (λ a. calls.Create a.0 a.1) (PathAndMode words) call h in subst (IsFit verbs.Create) d.2 (mode_fits words d.0 d.1, refl)
call_fits verbs.Symlink words call h = let d = made (λ a. calls.Symlink a.0 a.1) (PathAndTarget words) call h in subst (IsFit verbs.Symlink) d.2 (target_fits words d.0 d.1, refl)
call_fits verbs.Link words call h = let d = made (λ a. calls.Link a.0 a.1) (TwoPaths words) call h in subst (IsFit verbs.Link) d.2 (paths_fit words d.0 d.1, refl)
call_fits verbs.Unlink words call h = let d = made (λ a. calls.Unlink a) (PathAlone words) call h in subst (IsFit verbs.Unlink) d.2 (path_fits words d.0 d.1, refl)
call_fits verbs.Rmdir words call h = let d = made (λ a. calls.Rmdir a) (PathAlone words) call h in subst (IsFit verbs.Rmdir) d.2 (path_fits words d.0 d.1, refl)
call_fits verbs.Rename words call h = let d = made (λ a. calls.Rename a.0 a.1) (TwoPaths words) call h in subst (IsFit verbs.Rename) d.2 (paths_fit words d.0 d.1, refl)
call_fits verbs.Chmod words call h = let d = made (λ a. calls.Chmod a.0 a.1) (PathAndMode words) call h in subst (IsFit verbs.Chmod) d.2 (mode_fits words d.0 d.1, refl)
call_fits verbs.Write words call h = let d = made (λ a. calls.Write a.0 a.1 a.2) (PathAndBytes words) call h in subst (IsFit verbs.Write) d.2 (bytes_fit words d.0 d.1, refl)
call_fits verbs.Fill words call h = let d = made (λ a. calls.Fill a.0 a.1 a.2 a.3) (PathAndFill 65536 words) call h in subst (IsFit verbs.Fill) d.2 (fill_fits 65536 words d.0 d.1, refl)
call_fits verbs.Truncate words call h = let d = made (λ a. calls.Truncate a.0 a.1) (PathAndSize words) call h in subst (IsFit verbs.Truncate) d.2 (size_fits words d.0 d.1, refl)
call_fits verbs.Read words call h = let d = made (λ a. calls.Read a.0 a.1 a.2) (PathAndRange 4096 words) call h in subst (IsFit verbs.Read) d.2 (range_fits 4096 words d.0 d.1, refl)
call_fits verbs.Stat words call h = let d = made (λ a. calls.Stat a) (PathAlone words) call h in subst (IsFit verbs.Stat) d.2 (path_fits words d.0 d.1, refl)
call_fits verbs.List words call h = let d = made (λ a. calls.List a) (PathAlone words) call h in subst (IsFit verbs.List) d.2 (path_fits words d.0 d.1, refl)
call_fits verbs.Readlink words call h = let d = made (λ a. calls.Readlink a) (PathAlone words) call h in subst (IsFit verbs.Readlink) d.2 (path_fits words d.0 d.1, refl)
call_fits verbs.Sync words call h = let d = made (λ a. calls.Sync) (NoWords words) call h in subst (IsFit verbs.Sync) d.2 (tt, refl)

lazy_fits : (verb : Verb) (fits : Bool) (words : List (List ℕ)) (call : Call) → may_be_lazy verb ≡ fits → FittingCallIs fits verb words (Ok call) → FitsRequest (record { call = call; lazy = true })
lazy_fits verb true words call e h =
    let f = call_fits verb words call h in
    (f.0, rw (f.1 ∙ e) tt)
lazy_fits verb false words call e h = cc

lazy_named : (o : Option Verb) (words : List (List ℕ)) (call : Call) → NamedCallIs may_be_lazy o words (Ok call) → FitsRequest (record { call = call; lazy = true })
lazy_named None words call h = cc
lazy_named (Some verb) words call h = lazy_fits verb (may_be_lazy verb) words call refl h

lazy_after : (words : List (List ℕ)) (call : Call) → LazyCallIs words (Ok call) → FitsRequest (record { call = call; lazy = true })
lazy_after [] call h = cc
lazy_after (word ∷ words) call h = lazy_named (verb_of word) words call h

plain_named : (o : Option Verb) (words : List (List ℕ)) (call : Call) → NamedCallIs (λ _. true) o words (Ok call) → FitsRequest (record { call = call; lazy = false })
plain_named None words call h = cc
plain_named (Some verb) words call h = ((call_fits verb words call h).0, tt)

after_fits : (lazy : Bool) (word : List ℕ) (words : List (List ℕ)) (q : Request) → CallAfter lazy word words (Ok q) → FitsRequest q
after_fits true word words q h = let d = made (λ call. record { call = call; lazy = true }) (LazyCallIs words) q h in subst FitsRequest d.2 (lazy_after words d.0 d.1)
after_fits false word words q h = let d = made (λ call. record { call = call; lazy = false }) (NamedCallIs (λ _. true) (verb_of word) words) q h in subst FitsRequest d.2 (plain_named (verb_of word) words d.0 d.1)

request_fits : (words : List (List ℕ)) (q : Request) → RequestIs words (Ok q) → FitsRequest q
request_fits [] q h = cc
request_fits (word ∷ words) q h = after_fits _ word words q h

some_same : (a b : Request) → Some a ≡ Some b → a ≡ b
some_same a b e = cc

text_fits : (text : Bool) (line : List ℕ) (q : Request) → TextIs text line (Ok (Some q)) → FitsRequest q
text_fits true line q h = let d = made (λ (q : Request). Some q) (RequestIs (words_of line)) (Some q) h in subst FitsRequest (some_same d.0 q d.2) (request_fits (words_of line) d.0 d.1)
text_fits false line q h = cc

line_fits : (skipped : Bool) (line : List ℕ) (q : Request) → UnlessSkipped skipped line (Ok (Some q)) → FitsRequest q
line_fits true line q h = cc
line_fits false line q h = text_fits (is_text line) line q h

fit_more : (asked : List Line) (line : Line) → AllFit asked → FitsRequest line.request → AllFit (asked ++ line ∷ [])
fit_more [] line all fits = (fits, tt)
fit_more (l ∷ asked) line all fits = (all.0, fit_more asked line all.1 fits)

pub asked_fit : (lines : List (List ℕ)) (asked : List Line) → Asks lines asked → AllFit asked
asked_fit lines asked (no_lines l a e f) = rw f tt
asked_fit lines asked (skips l a before line more is e) = asked_fit before asked more
asked_fit lines asked (asks l a before line sooner q more is e f) = rw f (fit_more sooner (record { number = length before + 1; request = q }) (asked_fit before sooner more) (line_fits (is_skipped line) line q is))

pub finished_fits : (text : List ℕ) (result : Result (Vec Line) ScriptError) → IsFinished text result → IfOk result (λ lines. AllFit lines.items)
finished_fits text (Ok asked) h = asked_fit (lines_of text) asked.items h.1
finished_fits text (Err e) h = tt
