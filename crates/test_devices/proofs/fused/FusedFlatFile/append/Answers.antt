use Rattle.std.proofs.Common.{◌/◌, length, take, drop, sym, arith, take-append-drop}
use Rattle.mail_store.{specs.declared.fault.StoreFault.TheVariants.Refused, proofs.DiskLemmas.front_of_all}
use Rattle.test_devices.proofs.fused.FusedFlatFile.append.Goals as goal

pub returns-then-is_last_effect-clause-appends : goal.returns-then-is_last_effect-clause-appends
returns-then-is_last_effect-clause-appends g c = λ k.
    let was = rw c.blow.ensures.counted at k in
    let inner = c.append.ensures.appends was.0 in
    let half = length c.args.bytes.now / 2 in
    rw c.blow.ensures.counted (
      (inner.0, omega (arith, was.1)),
      front_of_all (Unit {0}) (g.D.FlatFile.disk c.args.self.now.device) (g.D.FlatFile.disk c.append.new.self) c.args.bytes.now
          (take half c.args.bytes.now) (drop half c.args.bytes.now) c.append.result Refused (sym (take-append-drop half c.args.bytes.now))
          inner.1,
    )
