mod LinesListed
mod ListingsShow
mod NamesExported
mod NamesNeeded
mod NamesResolved
mod StatementsTraced
