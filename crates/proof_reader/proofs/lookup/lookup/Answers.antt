use Rattle.std.proofs.Common.{◌∷◌, IsTrue, subst, sym, codes}
use Rattle.theory_reader.specs.Names.{distinct}
use Rattle.proof_reader.proofs.NamePieces as pieces
use Rattle.proof_reader.proofs.lookup.lookup.Goals as goal

pub type_names-requires : goal.type_names-requires
type_names-requires c =
    let t = c.args.theory.now in
    subst (λ ns. IsTrue (distinct (codes "bool" ∷ ns))) (sym c.as_slice.ensures) (pieces.types_with_bool t.types t.consts t.facts t.goals t.names_are_words t.names_differ)
