-- A job, its tasks and the proofs that it gives may go to other threads, and a job may be lent to them, as each part may.
use denote.Enum.Declared.{shape}
use denote.Builtin.{u32}
use denote.Hole.{as_row}
use denote.Ref.{NamedLft}
use denote.RattleType.{RattleType}
use denote.Param.Send.{IsSend, IsSync, enum_send, enum_sync, sendable, view_send, view_sync}
use denote.Param.SendFields.{as_row_send, as_row_sync, declared_send, declared_sync, variants_send, variants_sync}
use Rattle.text_kit.proofs.bytes.Bytes.TheSendSync as bytes
use Rattle.text_kit.proofs.rows.Rows.TheSendSync as rows
use Rattle.text_kit.proofs.shared.Shared.TheSendSync as shared
use Rattle.text_kit.specs.contracts.bytes.Bytes as bytes_type
use Rattle.text_kit.specs.contracts.rows.Rows as rows_type
use Rattle.hol_terms.proofs.term.Term.TheLaws.TheKnot as term_knot
use Rattle.hol_terms.proofs.ty.Ty.TheLaws.TheKnot as ty_knot
use Rattle.hol_terms.specs.contracts.env.Env as env_type
use Rattle.hol_terms.specs.contracts.konst.Konst as konst_type
use Rattle.hol_terms.specs.contracts.sig.Sig as sig_type
use Rattle.hol_terms.specs.contracts.term.Term as term_type
use Rattle.hol_terms.specs.contracts.ty.Ty as ty_type
use Rattle.kernel_rules.specs.contracts.step.Step as step_type
use Rattle.kernel_rules.specs.contracts.step.ThmId as id_type
use Rattle.hol_kernel.specs.contracts.proven.Proven as proven_type
use Rattle.theory_terms.specs.contracts.decl.Decl as decl_type
use Rattle.theory_reader.specs.contracts.statement.Fact as fact_type
use Rattle.theory_reader.specs.contracts.statement.Goal as goal_type
use Rattle.theory_reader.specs.contracts.theory.Theory as theory_type
use Rattle.fact_minimise.specs.contracts.minimise.Minimise as minimise_type
use Rattle.fact_minimise.specs.contracts.minimise.Minimise.TheInside as minimise_inside
use Rattle.fact_minimise.specs.contracts.stage.Stage as turn_type
use Rattle.slot_work.specs.contracts.job.Job as job_type
use Rattle.slot_work.specs.contracts.job.Job.TheInside as job_inside
use Rattle.slot_work.specs.contracts.slot.Slot as slot_type
use Rattle.slot_work.specs.contracts.stage.Stage as stage_type
use Rattle.slot_work.specs.contracts.task.SlotTask as task_type
use Rattle.slot_work.specs.contracts.task.SlotTask.TheInside as task_inside

-- a list as a field
pub rows_field_send : (T : RattleType) → IsSend T → IsSend (as_row (rows_type.the_field T))
rows_field_send T s = as_row_send (rows_type.the_field T) (rows.the_send T s)

pub rows_field_sync : (T : RattleType) → IsSync T → IsSync (as_row (rows_type.the_field T))
rows_field_sync T s = as_row_sync (rows_type.the_field T) (rows.the_sync T s)

-- ---- a type, a constant and a term, each first without the names of its variants
ty_field_send : IsSend (ty_type.the_field).row
ty_field_send = ty_knot.both_send-Ty (search sendable) (search sendable) shared.the_send shared.the_sync

ty_send : IsSend ty_type.the_row
ty_send = as_row_send ty_type.the_field ty_field_send

ty_field_sync : IsSync (ty_type.the_field).row
ty_field_sync = ty_knot.both_sync-Ty (search sendable) (search sendable) shared.the_send shared.the_sync

ty_sync : IsSync ty_type.the_row
ty_sync = as_row_sync ty_type.the_field ty_field_sync

konst_field_send : IsSend (konst_type.the_field).row
konst_field_send = enum_send (shape konst_type.the_type) ((search sendable, tt), ((search sendable, tt), (tt, (tt, (tt, (tt, (tt, (tt, ((ty_field_send, tt), ((ty_field_send, tt), ((ty_field_send, tt), ((ty_field_send, tt), tt))))))))))))

konst_field_sync : IsSync (konst_type.the_field).row
konst_field_sync = enum_sync (shape konst_type.the_type) ((search sendable, tt), ((search sendable, tt), (tt, (tt, (tt, (tt, (tt, (tt, ((ty_field_sync, tt), ((ty_field_sync, tt), ((ty_field_sync, tt), ((ty_field_sync, tt), tt))))))))))))

term_field_send : IsSend (term_type.the_field).row
term_field_send =
    term_knot.both_send-Term (search sendable) (search sendable) ty_field_send ty_field_sync konst_field_send konst_field_sync shared.the_send shared.the_sync

term_send : IsSend term_type.the_row
term_send = as_row_send term_type.the_field term_field_send

term_field_sync : IsSync (term_type.the_field).row
term_field_sync =
    term_knot.both_sync-Term (search sendable) (search sendable) ty_field_send ty_field_sync konst_field_send konst_field_sync shared.the_send shared.the_sync

term_sync : IsSync term_type.the_row
term_sync = as_row_sync term_type.the_field term_field_sync

-- ---- steps, and proofs of them
id_send : IsSend id_type.the_row
id_send = search sendable depth 20

step_send : IsSend step_type.the_row
step_send = variants_send step_type.enum ((search sendable, tt), ((term_send, tt), ((term_send, (id_send, tt)), ((id_send, (id_send, tt)), ((id_send, (id_send, tt)), ((id_send, tt), ((id_send, tt), ((term_send, (id_send, tt)), ((term_send, (id_send, tt)), ((id_send, (id_send, (id_send, tt))), ((term_send, (id_send, tt)), ((id_send, (id_send, tt)), (tt, ((term_send, (id_send, tt)), ((search sendable, (ty_send, (id_send, tt))), ((term_send, (id_send, tt)), ((term_send, (term_send, (id_send, tt))), ((id_send, tt), ((term_send, tt), ((term_send, (id_send, (id_send, tt))), ((term_send, tt), ((search sendable, (ty_send, (id_send, tt))), ((id_send, (id_send, tt)), ((search sendable, (ty_send, (term_send, (id_send, tt)))), tt))))))))))))))))))))))))

id_sync : IsSync id_type.the_row
id_sync = search sendable depth 20

step_sync : IsSync step_type.the_row
step_sync = variants_sync step_type.enum ((search sendable, tt), ((term_sync, tt), ((term_sync, (id_sync, tt)), ((id_sync, (id_sync, tt)), ((id_sync, (id_sync, tt)), ((id_sync, tt), ((id_sync, tt), ((term_sync, (id_sync, tt)), ((term_sync, (id_sync, tt)), ((id_sync, (id_sync, (id_sync, tt))), ((term_sync, (id_sync, tt)), ((id_sync, (id_sync, tt)), (tt, ((term_sync, (id_sync, tt)), ((search sendable, (ty_sync, (id_sync, tt))), ((term_sync, (id_sync, tt)), ((term_sync, (term_sync, (id_sync, tt))), ((id_sync, tt), ((term_sync, tt), ((term_sync, (id_sync, (id_sync, tt))), ((term_sync, tt), ((search sendable, (ty_sync, (id_sync, tt))), ((id_sync, (id_sync, tt)), ((search sendable, (ty_sync, (term_sync, (id_sync, tt)))), tt))))))))))))))))))))))))

pub proven_send : IsSend proven_type.the_row
proven_send = declared_send proven_type.the_type (rows_field_send u32 (search sendable), (rows_field_send step_type.the_row step_send, tt))

-- ---- what a goal is proved from
sig_send : IsSend sig_type.the_row
sig_send = declared_send sig_type.the_type (search sendable, (rows_field_send ty_type.the_row ty_send, (rows_field_send ty_type.the_row ty_send, tt)))

env_send : IsSend env_type.the_row
env_send = declared_send env_type.the_type (sig_send, (rows_field_send term_type.the_row term_send, (term_send, tt)))

sig_sync : IsSync sig_type.the_row
sig_sync = declared_sync sig_type.the_type (search sendable, (rows_field_sync ty_type.the_row ty_sync, (rows_field_sync ty_type.the_row ty_sync, tt)))

env_sync : IsSync env_type.the_row
env_sync = declared_sync env_type.the_type (sig_sync, (rows_field_sync term_type.the_row term_sync, (term_sync, tt)))

-- ---- a theory, which is lent alone
bytes_sync : IsSync (as_row bytes_type.the_field)
bytes_sync = as_row_sync bytes_type.the_field bytes.the_sync

decl_sync : IsSync decl_type.the_row
decl_sync = declared_sync decl_type.the_type (bytes_sync, (ty_sync, tt))

fact_sync : IsSync fact_type.the_row
fact_sync = declared_sync fact_type.the_type (bytes_sync, (term_sync, tt))

goal_sync : IsSync goal_type.the_row
goal_sync = declared_sync goal_type.the_type (bytes_sync, (term_sync, (search sendable, (rows_field_sync fact_type.the_row fact_sync, tt))))

theory_sync : IsSync theory_type.the_row
theory_sync =
    declared_sync theory_type.the_type (
      rows_field_sync bytes_type.the_row bytes.the_sync,
      (
        rows_field_sync decl_type.the_row decl_sync,
        (rows_field_sync fact_type.the_row fact_sync, (rows_field_sync goal_type.the_row goal_sync, tt)),
      ),
    )

-- ---- a job
pub job_send : (κ : NamedLft) → IsSend (job_type.the_row κ)
job_send κ =
    view_send (job_inside.the_row κ) _ _ _ _
    (declared_send (job_inside.the_type κ) (
      search (sendable, theory_sync),
      (search sendable, (env_send, (rows_field_send u32 (search sendable), (search sendable, tt)))),
    ))

pub job_sync : (κ : NamedLft) → IsSync (job_type.the_row κ)
job_sync κ =
    view_sync (job_inside.the_row κ) _ _ _ _
    (declared_sync (job_inside.the_type κ) (
      search (sendable, theory_sync),
      (search sendable, (env_sync, (rows_field_sync u32 (search sendable), (search sendable, tt)))),
    ))

-- ---- a task
turn_send : IsSend turn_type.the_row
turn_send = variants_send turn_type.enum ((search sendable, (search sendable, tt)), ((search sendable, (search sendable, tt)), tt))

minimise_send : IsSend minimise_type.the_row
minimise_send = view_send minimise_inside.the_row _ _ _ _ (declared_send minimise_inside.the_type (rows_field_send u32 (search sendable), (turn_send, tt)))

stage_send : IsSend stage_type.the_row
stage_send = variants_send stage_type.enum (tt, ((rows_field_send u32 (search sendable), (as_row_send minimise_type.the_field minimise_send, tt)), (tt, tt)))

slot_send : (κ : NamedLft) → IsSend (slot_type.the_row κ)
slot_send κ =
    declared_send (slot_type.the_type κ)
    (search (sendable, theory_sync), (search sendable, (search sendable, (env_send, (as_row_send bytes_type.the_field bytes.the_send, tt)))))

pub task_send : (κ : NamedLft) → IsSend (task_type.the_row κ)
task_send κ = view_send (task_inside.the_row κ) _ _ _ _ (declared_send (task_inside.the_type κ) (slot_send κ, (stage_send, tt)))
