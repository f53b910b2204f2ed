-- What is known of the tree that a volume holds.
use Rattle.jfs_served.proofs.Between.{asked_law, joined_law, home_law, acknowledged_law, pointed_law, handed_out_law}
use Rattle.jfs_served.proofs.Changed.{changed_law}
use Rattle.jfs_served.proofs.Given.{given_back_law, unfinished_law}
use Rattle.jfs_served.proofs.History.{history_law}
use Rattle.jfs_served.proofs.Keeps.{again_law}
use Rattle.jfs_served.proofs.Mounted.{mounted_law}
use Rattle.jfs_served.proofs.Replies.{unchanged_law, refused_law}
use Rattle.jfs_served.proofs.Torn.{torn_law}
use Rattle.jfs_served.proofs.Unmounted.{unmounted_law}
use Rattle.jfs_legal.proofs.Replying.{Laws}

pub laws : Laws
laws = record {
  changed = changed_law;
  given_back = given_back_law;
  unfinished = unfinished_law;
  unchanged = unchanged_law;
  asked = asked_law;
  joined = joined_law;
  refused = refused_law;
  torn = torn_law;
  acknowledged = acknowledged_law;
  pointed = pointed_law;
  handed_out = handed_out_law;
  home = home_law;
  again = again_law;
  mounted = mounted_law;
  unmounted = unmounted_law;
  history = history_law;
}
