-- A sound device stays sound, and what a step does to running.
use Rattle.std.proofs.Common.{ℕ, Result, Ok, Err, IfOk, sym, subst}
use Rattle.std.specs.List.{All}
use Rattle.nm_base.specs.declared.fault.NoMemory.{NoMemory}
use Rattle.nm_proto.specs.declared.message.Request.{Request}
use Rattle.nm_proto.specs.declared.message.Reply.{Reply}
use Rattle.nm_proto.specs.Content.{Meaning, Laws, TablesState}
use Rattle.nm_device.specs.Device.{DeviceState, Stepped, Does, IsSound}
use Rattle.nm_device.specs.Undoing.{ended, advanced, restarted}
use Rattle.nm_device.specs.Table.{device_step, Moves}
use Rattle.nm_device.proofs.Rows.{step_moves}
use Rattle.nm_device.proofs.Steady.{ended_steady, advanced_steady, restarted_steady, step_steady}
use Rattle.nm_device.proofs.Belonging.{ended_belongs, advanced_belongs, restarted_belongs, step_belongs}

module _ {Config TheEdit Node : Type 0} (m : Meaning Config TheEdit Node) (s : DeviceState Config Node) where
  pub ended_sound : (session : ℕ) → IsSound m s → IsSound m (ended m s session)
  ended_sound session so = record { belong = ended_belongs m s session so.belong; steady = ended_steady m s session so.steady }

  pub advanced_sound : (seconds : ℕ) → IsSound m s → IsSound m (advanced m s seconds)
  advanced_sound seconds so = record { belong = advanced_belongs m s seconds so.belong; steady = advanced_steady m s seconds so.steady }

  pub restarted_sound : IsSound m s → IsSound m (restarted m s)
  restarted_sound so = record { belong = restarted_belongs m s so.belong; steady = restarted_steady m s so.steady }

module _ {Config TheEdit Node : Type 0} (m : Meaning Config TheEdit Node) (laws : Laws m) (tables : TablesState TheEdit) (edits : All m.edit_belongs tables.edits) where
  pub step_sound : (result : Result Reply NoMemory) (old new : DeviceState Config Node) (session : ℕ) (request : Request) → IsSound m old
      → Does result old new (device_step m tables old session request) → IsSound m new
  step_sound (Ok reply) old new session request so does = subst (IsSound m) (sym does.1)
      (record { belong = step_belongs m laws tables edits old session request so.belong; steady = step_steady m laws tables old session request so.steady })
  step_sound (Err fault) old new session request so does = subst (IsSound m) (sym does) so

module _ {Config TheEdit Node : Type 0} (m : Meaning Config TheEdit Node) (tables : TablesState TheEdit) where
  pub does_move : (result : Result Reply NoMemory) (old new : DeviceState Config Node) (session : ℕ) (request : Request)
      → Does result old new (device_step m tables old session request) → IfOk result (λ reply. Moves request reply old new)
  does_move (Ok reply) old new session request does =
      let stepped : Stepped Config Node = device_step m tables old session request in
      subst (λ (told : Reply). Moves request told old new) (sym does.0) (subst (λ (now : DeviceState Config Node). Moves request stepped.reply old now) (sym does.1) (step_moves m tables old session request))
  does_move (Err fault) old new session request does = tt
