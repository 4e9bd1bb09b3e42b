-- What a goal may be proved from.
use Rattle.std.specs.Prelude.{◌≡◌, Bool, true, false, ◌&&◌, nat_lt, List, Result, Ok, Err}
use Rattle.std.specs.List.{list_all}
use Rattle.hol_terms.specs.declared.sig.Sig.{Sig}
use Rattle.hol_terms.specs.declared.term.Term.{Term}
use Rattle.hol_terms.specs.declared.env.Env.{Env}
use Rattle.hol_terms.specs.declared.fault.TypeFault.{TypeFault}
use Rattle.hol_terms.specs.declared.fault.TypeFault.TheVariants.{IllTyped, NoMemory}
use Rattle.hol_terms.specs.Formulas.{is_sentence}

-- the signature has bool, and the facts and the goal are sentences over it
abbrev pub all_sentences : Sig → List Term → Term → Bool
all_sentences sig facts goal = nat_lt 0 sig.types && (list_all (is_sentence sig) facts && is_sentence sig goal)

-- the parts put together where they are so, and `IllTyped` exactly where they aren't
abbrev pub PutTogether : Sig → List Term → Term → Result Env TypeFault → Type 0
PutTogether sig facts goal (Ok e) = (all_sentences sig facts goal ≡ true) × (e.sig ≡ sig) × (e.facts ≡ facts) × (e.goal ≡ goal)
PutTogether sig facts goal (Err IllTyped) = all_sentences sig facts goal ≡ false
PutTogether sig facts goal (Err NoMemory) = Unit {0}
