-- When words are a line, and when they are none.
use Rattle.std.proofs.Common.{◌≡◌, ℕ, List, drop, refl, sym, subst, ◌∙◌}
use Rattle.std.specs.Prelude.{Some, None, slice_get}
use Rattle.std.specs.Option.{option_and_then}
use Rattle.sledge_words.specs.declared.command.Command.{Command}
use Rattle.sledge_words.specs.declared.line.Line.{Line}
use Rattle.sledge_words.specs.declared.settings.Settings.{Settings}
use Rattle.sledge_words.specs.Options.{command_of}
use Rattle.sledge_words.specs.Pieces.{Parts, Before, parts_from}
use Rattle.sledge_words.specs.Lines.{IsLine}
use Rattle.sledge_words.specs.inner.Split.{Fits, NoValues, IsLineOf, settings_of}

module _ (words : List (List ℕ)) where
  pub whole : (c : Command) (p : Parts) (n : ℕ) (s : Settings) (l : Line) → option_and_then command_of (slice_get words 0) ≡ Some c → parts_from (drop 1 words) 1 Before ≡ Some p →
      Fits words c p n s → IsLineOf c p n s l → IsLine words l
  whole c p n s l named cut fits is =
      subst (IsLine words) (sym is) (record {
        named = named;
        parts = p;
        cut = cut;
        shaped = fits.shaped;
        places = refl;
        number = fits.number;
        slices = fits.settings.slices;
        workers = fits.settings.workers;
        budget = fits.settings.budget;
        slice = fits.settings.slice;
        size = fits.settings.size;
        timeout = fits.settings.timeout;
        prover = refl;
        proof = refl;
      })

  pub unnamed : (l : Line) → option_and_then command_of (slice_get words 0) ≡ None → IsLine words l → ⊥
  unnamed l none h = let e : Some l.command ≡ None = sym h.named ∙ none in cc

  pub uncut : (l : Line) → parts_from (drop 1 words) 1 Before ≡ None → IsLine words l → ⊥
  uncut l none h = let e : Some h.parts ≡ None = sym h.cut ∙ none in cc

  own : (l : Line) (h : IsLine words l) → Fits words l.command h.parts l.number (settings_of l)
  own l h = record {
    shaped = h.shaped;
    number = h.number;
    settings = record { slices = h.slices; workers = h.workers; budget = h.budget; slice = h.slice; size = h.size; timeout = h.timeout };
  }

  pub unfit : (c : Command) (p : Parts) (l : Line) → option_and_then command_of (slice_get words 0) ≡ Some c → parts_from (drop 1 words) 1 Before ≡ Some p → NoValues words c p → IsLine words l → ⊥
  unfit c p l named cut none h =
      let e : Some l.command ≡ Some c = sym h.named ∙ named in
      let f : Some h.parts ≡ Some p = sym h.cut ∙ cut in
      let same : l.command ≡ c = cc in
      let parts : h.parts ≡ p = cc in
      none l.number (settings_of l) (subst (λ d. Fits words d p l.number (settings_of l)) same (subst (λ q. Fits words l.command q l.number (settings_of l)) parts (own l h)))
