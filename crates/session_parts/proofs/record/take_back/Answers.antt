use Rattle.mail_store.specs.Devices.{known_file}
use Rattle.session_parts.proofs.RecordLemmas.{cuts_record}
use Rattle.session_parts.proofs.record.take_back.Goals as goal

pub returns : goal.returns
returns g c = record {
  cuts = λ sound.
      let did = c.cut_to.ensures.cuts sound in (
        did.0,
        cuts_record c.args.size (known_file g.F.FlatFile c.args.file.now) (known_file g.F.FlatFile c.cut_to.new.self)
            c.cut_to.result (g.met.F.FlatFile.below c.args.file.now did.0) c.cut_to.ensures.fault did.1 c.cut_to.ensures.count,
      );
}
