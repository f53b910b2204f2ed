-- Rising keys and entries, cut and joined.
use Rattle.std.proofs.Common.{◌≡◌, true, [], ◌∷◌, ◌++◌, Option, Some, None}
use Rattle.jfs_tree.specs.Walk.{Page, Key, Row, Fault, Marks, Scale, UpTo, Rises, IsOrder}

pub upto_lower : {P E : Type 0} (s : Scale P E) → IsOrder s → (a b : P) (high : Option P) → s.le a b ≡ true → UpTo s b high → UpTo s a high
upto_lower s o a b None h u = tt
upto_lower s o a b (Some high) h u = o.trans_le a b high h u

pub rises_lower : {P E : Type 0} (s : Scale P E) → IsOrder s → (a b : P) (ms : Marks P E) (high : Option P) → s.le a b ≡ true → Rises s b ms high → Rises s a ms high
rises_lower s o a b [] high h r = upto_lower s o a b high h r
rises_lower s o a b (Page n ∷ ms) high h r = rises_lower s o a b ms high h r
rises_lower s o a b (Key n k ∷ ms) high h r = (o.trans_le a b k h r.0, r.1)
rises_lower s o a b (Row n e ∷ ms) high h r = (o.trans_le a b (s.from e) h r.0, r.1)
rises_lower s o a b (Fault n f ∷ ms) high h r = r

pub rises_higher : {P E : Type 0} (s : Scale P E) → IsOrder s → (low : P) (ms : Marks P E) (a : P) (high : Option P) → UpTo s a high → Rises s low ms (Some a) → Rises s low ms high
rises_higher s o low [] a high h r = upto_lower s o low a high r h
rises_higher s o low (Page n ∷ ms) a high h r = rises_higher s o low ms a high h r
rises_higher s o low (Key n k ∷ ms) a high h r = (r.0, rises_higher s o k ms a high h r.1)
rises_higher s o low (Row n e ∷ ms) a high h r = (r.0, rises_higher s o (s.to e) ms a high h r.1)
rises_higher s o low (Fault n f ∷ ms) a high h r = r

pub rises_join : {P E : Type 0} (s : Scale P E) → IsOrder s → (low mid : P) (a b : Marks P E) (high : Option P) → Rises s low a (Some mid) → Rises s mid b high → Rises s low (a ++ b) high
rises_join s o low mid [] b high ra rb = rises_lower s o low mid b high ra rb
rises_join s o low mid (Page n ∷ ms) b high ra rb = rises_join s o low mid ms b high ra rb
rises_join s o low mid (Key n k ∷ ms) b high ra rb = (ra.0, rises_join s o k mid ms b high ra.1 rb)
rises_join s o low mid (Row n e ∷ ms) b high ra rb = (ra.0, rises_join s o (s.to e) mid ms b high ra.1 rb)
rises_join s o low mid (Fault n f ∷ ms) b high ra rb = ra

pub rises_cut : {P E : Type 0} (s : Scale P E) → IsOrder s → (low : P) (a b : Marks P E) (high : Option P) → Rises s low (a ++ b) high → (mid : P) × Rises s low a (Some mid) × Rises s mid b high
rises_cut s o low [] b high r = (low, o.refl_le low, r)
rises_cut s o low (Page n ∷ ms) b high r = rises_cut s o low ms b high r
rises_cut s o low (Key n k ∷ ms) b high r = let t = rises_cut s o k ms b high r.1 in (t.0, (r.0, t.1), t.2)
rises_cut s o low (Row n e ∷ ms) b high r = let t = rises_cut s o (s.to e) ms b high r.1 in (t.0, (r.0, t.1), t.2)
rises_cut s o low (Fault n f ∷ ms) b high r = absurd r
