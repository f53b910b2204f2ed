-- What becomes of the tree, by what a volume answers to a transaction.
use Rattle.std.specs.Bool.{⊤}
use Rattle.std.proofs.Common.{◌≡◌, ◌⊎◌, refl, ap, subst, ℕ, inl, inr, Some}
use Rattle.jfs_disk.specs.declared.disk.Fault.{Fault}
use Rattle.jfs_call.specs.volume.specs.Called.{StopsReading, StopsPutting}
use Rattle.jfs_call.specs.volume.specs.declared.calling.Called.TheVariants.{Entered, NoRoom, NoMemory, Failed, Unfit}
use Rattle.jfs_call.specs.volume.specs.pages.specs.Device.{IsFault}
use Rattle.jfs_call.specs.volume.specs.Join.{with_entry}
use Rattle.jfs_call.specs.plain.specs.declared.call.Entry.{Entry}
use Rattle.jfs_call.specs.plain.specs.declared.refusal.Refusal.TheVariants.{IoFault}
use Rattle.jfs_call.specs.plain.specs.declared.reply.Reply.TheVariants.{Refused}
use Rattle.jfs_served.specs.Holds.{StaysServing}
use Rattle.jfs_served.specs.Step.{TakesStep}
use Rattle.jfs_served.specs.Laws.{CalledLaw}
use Rattle.jfs_served.proofs.Between.{joined_law}
use Rattle.jfs_served.proofs.Changed.{changed_law}
use Rattle.jfs_served.proofs.Given.{given_back_law, unfinished_law}
use Rattle.jfs_served.proofs.Keeps.{again_law}
use Rattle.jfs_served.proofs.Replies.{refused_law}
use Rattle.jfs_served.proofs.Torn.{torn_law}

pub called_law : CalledLaw
called_law area log_pages request now tx put entry (Entered number) old mid new may asked answer joined = changed_law area log_pages request now tx put entry number old mid new may asked answer joined.joins
called_law area log_pages request now tx put entry NoRoom old mid new may asked answer (back, on, full) = given_back_law area log_pages request now tx put old mid new may asked answer back (on.view tt)
called_law area log_pages request now tx put entry NoMemory old mid new may asked answer (back, on) = unfinished_law area log_pages request now tx put old mid new may asked answer back (on.view tt)
called_law area log_pages request now tx put entry Unfit old mid new may asked answer (back, on, why) = unfinished_law area log_pages request now tx put old mid new may asked answer back (on.view tt)
called_law area log_pages request now tx put entry (Failed fault) old mid new may asked answer (back, fails) = (fault_is, (tree fails.fails, λ reply. step reply fails.fails))
  where
    fault_is : IsFault old.faults new.faults fault
    fault_is = subst (λ (n : ℕ). IsFault n new.faults fault) (ap (λ (f : Fault). f.count) answer.fault) fails.is_fault

    stays : (⊤ → new.view ≡ mid.view) → StaysServing area log_pages old new
    stays view = given_back_law area log_pages request now tx put old mid new may asked answer back (view tt)

    tree : StopsReading ⊤ ⊥ mid new ⊎ StopsPutting ⊤ ⊥ tx put fault mid new → StaysServing area log_pages old new ⊎ (new.halted ≡ Some fault)
    tree (inl reads) = inl (stays reads.view)
    tree (inr puts) = inr puts.halted

    step : (reply : Entry) → StopsReading ⊤ ⊥ mid new ⊎ StopsPutting ⊤ ⊥ tx put fault mid new → TakesStep area log_pages request.call now (Refused (IoFault fault)) old (with_entry reply new)
    step reply (inl reads) = refused_law.failed area log_pages request.call now fault old (with_entry reply new) may
        (again_law area log_pages old new (with_entry reply new) (stays reads.view) (joined_law area log_pages reply new (with_entry reply new) (stays reads.view).keeps.holds refl)) (inl fault_is)
    step reply (inr puts) = torn_law area log_pages request now tx put fault reply old mid new (with_entry reply new) may asked answer back (puts.view tt) fault_is refl
