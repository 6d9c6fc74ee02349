use Rattle.std.proofs.Common.{◌∙◌, refl, sym, inl}
use Rattle.sl_io.specs.Shelf.{untold}
use Rattle.scorelimits.proofs.carry_out.Goals as goal

pub returns-clause-carried_out : goal.returns-clause-carried_out
returns-clause-carried_out g c = λ zero.
    let (command, is, out_of) = c.run-ended.ensures.carried_out (inl (sym c.from.ensures ∙ zero)) in (
      _,
      refl,
      _,
      (
        command,
        is,
        λ told. let d = out_of told in
            record { n = d.n; held = d.held; verdict = d.verdict; text = d.text; comes = d.comes; put = d.put; ends = tt },
      ),
    )

pub returns-clause-ended : goal.returns-clause-ended
returns-clause-ended g c = rw c.from.ensures (untold c.new-shelf.result, untold c.run-ended.new.shelf, refl, c.run-ended.ensures.ended)
