-- From what a burst is to what holds of its beats.
pub mod Rules
pub mod Beats
pub mod Laws
pub mod Edges
