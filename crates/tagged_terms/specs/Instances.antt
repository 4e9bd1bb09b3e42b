-- Terms put for typed variables, one after another and at once.
use Rattle.std.specs.Prelude.{◌≡◌, ℕ, ◌==◌, ◌&&◌, if◌then◌else◌, List, [], ◌∷◌}
use Rattle.hol_terms.specs.declared.ty.Ty.{Ty}
use Rattle.hol_terms.specs.declared.term.Term.{Term}
use Rattle.hol_terms.specs.Types.{is_ty}
use Rattle.hol_terms.specs.Substitution.{put_free, one_put}
use Rattle.tagged_terms.specs.declared.symbol.Instance.{Instance}
use Rattle.tagged_terms.specs.Readings.{free}

-- one after another
abbrev pub in_turn : List Instance → Term → Term
in_turn [] d = d
in_turn (p ∷ ps) d = in_turn ps (put_free (one_put p.var p.ty p.term) d)

-- at once: the first that is of the variable counts, and other variables stay
abbrev pub at_once : List Instance → ℕ → Ty → Term
at_once [] x s = free x s
at_once (p ∷ ps) x s = if x == p.var && is_ty s p.ty then p.term else at_once ps x s

-- the later ones leave what each puts in
abbrev pub Settled : List Instance → Type 0
Settled [] = Unit {0}
Settled (p ∷ ps) = (in_turn ps p.term ≡ p.term) × Settled ps
