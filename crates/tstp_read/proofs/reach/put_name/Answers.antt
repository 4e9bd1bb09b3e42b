use Rattle.tstp_read.proofs.Maps as maps
use Rattle.tstp_read.proofs.reach.put_name.Goals as goal
use Rattle.tstp_read.proofs.reach.put_name.Goals.{in-Ok, in-Err}

pub returns : goal.returns
returns c = elim c.match-insert.branch [
  | in-Ok w ↦ rw w.result-is (maps.adds c.args.key c.args.names.now.keys c.insert.new.self.keys w.in-Ok.ensures.keys)
  | in-Err w ↦ rw w.result-is tt
]
