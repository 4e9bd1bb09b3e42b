use Rattle.std.proofs.Common.{◌≡◌, ◌<◌, length, slice_get, Some, ◌∙◌, sym, ap, subst}
use Rattle.std.specs.Prelude.{unwrap_or}
use Rattle.lambda_lift.specs.declared.table.Aux.{Aux}
use Rattle.hol_clausify.specs.inner.Identities.{IsOf}
use Rattle.hol_clausify.proofs.EntryLaws.{at_table, within_table, number_is}
use Rattle.hol_clausify.proofs.entries.equation_stands.Goals as goal

same : (x y : Aux) → Some x ≡ Some y → x ≡ y
same x y h = cc

pub at-entry-requires : goal.at-entry-requires
at-entry-requires c =
    let q = c.requires.t in
    let number = c.unwrap_or-number.ensures ∙ ap (λ o. unwrap_or o 0) c.first_aux.ensures ∙ number_is c.args.log.now.env.sig c.args.table.now q.number q.entry c.args.t.now q.of in
    subst (λ l. c.unwrap_or-number.result < length l) (sym c.entries.ensures) (subst (λ n. n < length c.args.table.now) (sym number) (within_table c.args.log.now.env.sig c.args.table.now q.number q.entry c.args.t.now q.of))

pub entry_stands-requires-clause-table : goal.entry_stands-requires-clause-table
entry_stands-requires-clause-table c = c.requires.table

pub entry_stands-requires-clause-t : goal.entry_stands-requires-clause-t
entry_stands-requires-clause-t c =
    let q = c.requires.t in
    let sig = c.args.log.now.env.sig in
    let table = c.args.table.now in
    let number = c.unwrap_or-number.ensures ∙ ap (λ o. unwrap_or o 0) c.first_aux.ensures ∙ number_is sig table q.number q.entry c.args.t.now q.of in
    let entry : q.entry ≡ c.at-entry.result.now =
    same q.entry c.at-entry.result.now (sym (at_table sig table q.number q.entry c.args.t.now q.of) ∙ ap (slice_get table) (sym number) ∙ ap (λ l. slice_get l c.unwrap_or-number.result) (sym c.entries.ensures) ∙ c.at-entry.ensures) in
    subst (λ n. IsOf sig table n c.at-entry.result.now c.args.t.now) (sym number) (subst (λ e. IsOf sig table q.number e c.args.t.now) entry q.of)

pub entry_stands-requires-clause-formula : goal.entry_stands-requires-clause-formula
entry_stands-requires-clause-formula c = c.requires.formula

pub returns-clause-kept : goal.returns-clause-kept
returns-clause-kept c = c.entry_stands.ensures.kept

pub returns-clause-facts : goal.returns-clause-facts
returns-clause-facts c = c.entry_stands.ensures.facts

pub returns-clause-gives : goal.returns-clause-gives
returns-clause-gives c = c.entry_stands.ensures.gives
