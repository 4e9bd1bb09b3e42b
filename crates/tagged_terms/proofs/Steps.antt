-- One equation of a reading for each constructor of terms, and what a reading is made of.
use Rattle.std.proofs.Common.{◌≡◌, ℕ, List, map, sym, ap, ◌∙◌}
use Rattle.hol_terms.specs.declared.ty.Ty.{Ty}
use Rattle.hol_terms.specs.declared.term.Term.{Term}
use Rattle.fo_terms.specs.declared.term.FoTerm.{FoTerm}
use Rattle.fo_terms.specs.declared.term.FoTerm.TheOpen.{FoTerm-F}
use Rattle.fo_terms.specs.declared.term.FoTerm.TheFolds.{fold-roll-FoTerm}
use Rattle.fo_terms.specs.declared.term.FoTerm.TheVariants.{rolls-Var, rolls-Fun}
use Rattle.fo_terms.specs.Substitution.{var, fun}
use Rattle.tagged_terms.specs.Readings.{Signs, Types, variable, read_symbol, read_step, reading, Reading, Core, Tagged}

pub read_var : (signs : Signs) (types : Types) (x : ℕ) → reading signs types (var x) ≡ variable (types x) x
read_var signs types x = ap (reading signs types) (sym (rolls-Var x)) ∙ fold-roll-FoTerm Reading (read_step signs types) (FoTerm-F.Var x)

pub read_fun : (signs : Signs) (types : Types) (f : ℕ) (args : List FoTerm) → reading signs types (fun f args) ≡ read_symbol (signs f) (map (reading signs types) args)
read_fun signs types f args = ap (reading signs types) (sym (rolls-Fun f args)) ∙ fold-roll-FoTerm Reading (read_step signs types) (FoTerm-F.Fun f args)

pub core_same : (a b : Ty) (d e : Term) → Core a d ≡ Core b e → (a ≡ b) × (d ≡ e)
core_same a b d e h = (cc, cc)

pub tagged_same : (a b : Ty) (d e : Term) → Tagged a d ≡ Tagged b e → (a ≡ b) × (d ≡ e)
tagged_same a b d e h = (cc, cc)
