use Rattle.command_words.proofs.words.read_pack.Goals as goal

pub returns-in_err-file-clause-only : goal.returns-in_err-file-clause-only
returns-in_err-file-clause-only c = λ input node_size asks. absurd (c.in_err-file.ensures.only input asks.file)

pub returns-in_err-node_size-clause-only : goal.returns-in_err-node_size-clause-only
returns-in_err-node_size-clause-only c = λ input node_size asks. absurd (c.in_err-node_size.ensures.only node_size asks.children)

pub returns-clause-only : goal.returns-clause-only
returns-clause-only c = λ input node_size asks. (c.in_ok-file.ensures.only input asks.file, c.in_ok-node_size.ensures.only node_size asks.children)
