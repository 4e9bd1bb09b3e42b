use Rattle.std.proofs.Common.{◌∙◌, ◌++◌, List, ℕ, ap}
use Rattle.std.specs.Prelude.{codes}
use Rattle.tstp_print.specs.Names.{name_text}
use Rattle.tstp_print.proofs.Separating.{three}
use Rattle.tstp_print.proofs.lines.put_file.Goals as goal

pub returns : goal.returns
returns c =
    three c.args.out.now (codes ", file('stdin', ") (name_text c.as_slice.result.now) (codes ")).\n") c.append.new.self c.put_name.new.out c.append-2.new.self
    c.in_ok-append.ensures.ok c.in_ok-put_name.ensures c.in_ok-append-2.ensures.ok ∙
    ap (λ (n : List ℕ). c.args.out.now ++ (codes ", file('stdin', " ++ name_text n ++ codes ")).\n")) c.as_slice.ensures
