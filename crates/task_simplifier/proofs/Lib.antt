mod CountedOrder
mod Reorders
mod KeptMoves
mod Projected
mod OneProjection
mod Staying
mod AlikeTasks
