-- A history that is over, with a commit or a syncpoint behind it.
use Rattle.std.proofs.Common.{◌∙◌, [], refl, ℕ}
use Rattle.jfs_served.specs.call.specs.declared.outcome.Outcome.TheVariants.{NoMemory}
use Rattle.jfs_served.specs.halves.specs.Parts.{Parts}
use Rattle.jfs_served.specs.Holds.{KeepsTree}
use Rattle.jfs_served.proofs.Told.{told_pages, told_shown}
use Rattle.jfs_legal.specs.Laws.{OverLaw, LackedLaw, OverSettledLaw, OverPointedLaw, OverHandedLaw}
use Rattle.jfs_legal.proofs.Replying.{does}
use Rattle.jfs_legal.proofs.Known.{laws}

-- what keeps its tree, and then keeps it again, keeps it
again : (area : ℕ → ℕ) (log_pages : ℕ) (old mid new : Parts) → KeepsTree area log_pages old mid → KeepsTree area log_pages mid new → KeepsTree area log_pages old new
again area log_pages old mid new x y = record {
  holds = y.holds;
  alike = record {
    extents = y.alike.extents ∙ x.alike.extents;
    area = λ b. y.alike.area b ∙ x.alike.area b;
    used = λ b. y.alike.used b ∙ x.alike.used b;
    in_use = λ n. y.alike.in_use n ∙ x.alike.in_use n;
    pages = λ b used zero. y.alike.pages b (x.alike.used b ∙ used) (x.alike.area b ∙ zero) ∙ x.alike.pages b used zero;
  };
  tree = record { nodes = λ n. y.tree.nodes n ∙ x.tree.nodes n; bytes = λ n i. y.tree.bytes n i ∙ x.tree.bytes n i };
  room = y.room ∙ x.room;
  files = λ s knows. y.files s (x.files s knows);
}

pub over_law : OverLaw
over_law area log_pages start es p goes = record {
  last = p;
  legal = goes.legal;
  holds = goes.serves.holds;
  keeps = λ runs. (laws.home area log_pages p p goes.serves.holds (record { parts = refl; view = λ t. refl })).keeps;
}

pub lacked_law : (tells crashes : Type 0) → LackedLaw tells crashes
lacked_law tells crashes told area log_pages start es a old new goes d =
    let lacks = does laws tells crashes told area log_pages a old new NoMemory goes.serves d in
    record { last = old; legal = goes.legal; holds = lacks.holds; keeps = lacks.keeps }

pub over_settled_law : (tells : Type 0) → OverSettledLaw tells
over_settled_law tells told area log_pages start es old new over settles files runs =
    let stays = laws.acknowledged area log_pages old new over.holds settles (told_pages tells ⊥ told old new files) in
    record { last = over.last; legal = over.legal; holds = stays.keeps.holds; keeps = λ now. again area log_pages over.last old new (over.keeps (runs now)) stays.keeps }

pub over_pointed_law : (tells : Type 0) → OverPointedLaw tells
over_pointed_law tells told area log_pages start es old new over settles shown maps runs =
    let stays = laws.pointed area log_pages old new over.holds settles (told_shown tells ⊥ told old new shown) maps in
    record { last = over.last; legal = over.legal; holds = stays.keeps.holds; keeps = λ now. again area log_pages over.last old new (over.keeps (runs now)) stays.keeps }

pub over_handed_law : OverHandedLaw
over_handed_law area log_pages start es old over =
    let stays = laws.handed_out area log_pages old (record old { entries = [] }) over.holds refl in
    record { last = over.last; legal = over.legal; holds = stays.keeps.holds; keeps = λ now. again area log_pages over.last old (record old { entries = [] }) (over.keeps now) stays.keeps }
