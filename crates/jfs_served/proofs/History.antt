-- Replies are a legal history.
use Rattle.std.proofs.Common.{ℕ, List}
use Rattle.jfs_call.specs.halves.specs.Parts.{Parts}
use Rattle.jfs_served.specs.Holds.{KeepsFiles}
use Rattle.jfs_served.specs.Legal.{Timed, IsLegal, starts, keeps, takes}
use Rattle.jfs_served.specs.Laws.{HistoryLaw}
use Rattle.jfs_served.proofs.Replies.{serves_still}

known : (area : ℕ → ℕ) (log_pages : ℕ) (start p : Parts) (es : List Timed) → IsLegal area log_pages start es p → KeepsFiles area start p
known area log_pages start p _ starts s knows = knows
known area log_pages start p _ (keeps es old new before kept) s knows = kept.files s (known area log_pages start old es before s knows)
known area log_pages start p _ (takes es e old new before step) s knows = step.files s (known area log_pages start old es before s knows)

pub history_law : HistoryLaw
history_law = record {
  starts = λ area log_pages p may. record { legal = starts; serves = may };
  stays = λ area log_pages start old new es had stays. record { legal = keeps es old new had.legal stays.keeps; serves = serves_still area log_pages old new had.serves stays };
  takes = λ area log_pages start old new es e had step. record { legal = takes es e old new had.legal step; serves = step.serves };
  files = known;
}
