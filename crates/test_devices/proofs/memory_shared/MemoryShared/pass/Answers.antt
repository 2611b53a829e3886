use Rattle.test_devices.proofs.memory_shared.MemoryShared.pass.Goals as goal

pub returns-in-Some-clause-moves : goal.returns-in-Some-clause-moves
returns-in-Some-clause-moves c = c.readers_move.ensures.rest c.args.self.now.folders

pub returns-in-None-clause-moves : goal.returns-in-None-clause-moves
returns-in-None-clause-moves c = c.readers_move.ensures.rest c.args.self.now.folders
