use Rattle.image.proofs.place_words.Goals as goal

pub returns-in-PutStatus : goal.returns-in-PutStatus
returns-in-PutStatus c = rw c.in-PutStatus.is

pub returns-in-PutSwap : goal.returns-in-PutSwap
returns-in-PutSwap c = rw c.in-PutSwap.is

pub returns-in-PutWrite : goal.returns-in-PutWrite
returns-in-PutWrite c = rw c.in-PutWrite.is

pub returns-in-PutPublish : goal.returns-in-PutPublish
returns-in-PutPublish c = rw c.in-PutPublish.is

pub returns-in-TakeStatus : goal.returns-in-TakeStatus
returns-in-TakeStatus c = rw c.in-TakeStatus.is

pub returns-in-TakeSwap : goal.returns-in-TakeSwap
returns-in-TakeSwap c = rw c.in-TakeSwap.is

pub returns-in-TakeRead : goal.returns-in-TakeRead
returns-in-TakeRead c = rw c.in-TakeRead.is

pub returns-in-TakeFree : goal.returns-in-TakeFree
returns-in-TakeFree c = rw c.in-TakeFree.is
